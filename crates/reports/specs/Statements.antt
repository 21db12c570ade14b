-- What is shown of the report, as statements about a machine. Nothing else is on this page; the proofs are in proofs/. W-202's own words stand in
-- quotation marks.
use Rattle.std.specs.Prelude.{ℕ, ◌+◌, ◌≤◌, ◌<◌, ◌≡◌, true, false, not, List, [], ◌∷◌, ℤ, pos, ◌+ℤ◌, length, get_or, replicate}
use Rattle.tables.specs.declared.Outcome.TheVariants.{Done}
use Rattle.tables.specs.Machine.{Machine, Tables}
use Rattle.tables.specs.Parts.{is_free}
use Rattle.tables.specs.Look.{cell}
use Rattle.states.specs.Machines.{Sized}
use Rattle.states.specs.Sound.{sound}
use Rattle.rules.specs.Answers.{succeeds}
use Rattle.rules.specs.Step.{Reached}
use Rattle.rules.specs.Payers.{is_caller, payer}
use Rattle.reports.specs.declared.Charge.{Charge}
use Rattle.reports.specs.Report.{amounts_of, count_of, belongs_to, is_placed, reported, report}

-- the sum of a list of numbers, and of the amounts of all charges
unfoldable pub sum_of : List ℤ → ℤ
sum_of [] = pos 0
sum_of (x ∷ xs) = x +ℤ sum_of xs

unfoldable pub amounts : List Charge → ℤ
amounts [] = pos 0
amounts (c ∷ cs) = c.amount +ℤ amounts cs

-- the same charges in another order
pub data Reordered : List Charge → List Charge → Type 0 where
  none : Reordered [] []
  first_stays : {cs ds : List Charge} (c : Charge) → Reordered cs ds → Reordered (c ∷ cs) (c ∷ ds)
  two_exchanged : (c d : Charge) (cs : List Charge) → Reordered (c ∷ d ∷ cs) (d ∷ c ∷ cs)
  and_then : {cs ds es : List Charge} → Reordered cs ds → Reordered ds es → Reordered cs es

module _ (𝓜 : Machine) where
  -- a report that is not refused
  abbrev pub IsDone : Tables → List Charge → Type 0
  IsDone s cs = succeeds (report 𝓜 s cs).outcome ≡ true

  -- "each total worked out from its own charges", the unplaced one too, and each of the two numbers
  pub record FromItsOwn (s : Tables) (cs : List Charge) : Type 0 where
    pub total : (who : ℕ) → who < 256 → get_or (report 𝓜 s cs).totals who (pos 0) ≡ amounts_of (belongs_to 𝓜 s who) cs
    pub unplaced : (report 𝓜 s cs).unplaced ≡ amounts_of (λ c. not (is_placed 𝓜 s c)) cs
    pub placed : (report 𝓜 s cs).placed ≡ count_of (is_placed 𝓜 s) cs
    pub missed : (report 𝓜 s cs).missed ≡ count_of (λ c. not (is_placed 𝓜 s c)) cs

  abbrev pub EachFromItsOwn : Type 0
  EachFromItsOwn = (s : Tables) (cs : List Charge) → IsDone s cs → FromItsOwn s cs

  -- "callers' totals plus the unplaced total equal the sum of the amounts"
  abbrev pub NothingIsLost : Type 0
  NothingIsLost = (s : Tables) (cs : List Charge) → IsDone s cs → sum_of (report 𝓜 s cs).totals +ℤ (report 𝓜 s cs).unplaced ≡ amounts cs

  -- "how many charges were placed and how many unplaced": together all of them
  abbrev pub AllAreCounted : Type 0
  AllAreCounted = (s : Tables) (cs : List Charge) → IsDone s cs → (report 𝓜 s cs).placed + (report 𝓜 s cs).missed ≡ length cs

  -- the order of the charges does not matter
  abbrev pub OrderDoesNotMatter : Type 0
  OrderDoesNotMatter = (s : Tables) (cs ds : List Charge) → Reordered cs ds → report 𝓜 s cs ≡ report 𝓜 s ds

  -- "both leave all totals and both numbers of charges 0", and "An empty list gives zeros."
  pub record AllZero (s : Tables) (cs : List Charge) : Type 0 where
    pub totals : (report 𝓜 s cs).totals ≡ replicate 256 (pos 0)
    pub unplaced : (report 𝓜 s cs).unplaced ≡ pos 0
    pub placed : (report 𝓜 s cs).placed ≡ 0
    pub missed : (report 𝓜 s cs).missed ≡ 0

  abbrev pub RefusedIsZero : Type 0
  RefusedIsZero = (s : Tables) (cs : List Charge) → succeeds (report 𝓜 s cs).outcome ≡ false → AllZero s cs

  abbrev pub NoneIsZero : Type 0
  NoneIsZero = (s : Tables) → AllZero s []

  -- "worker .. number is out of range": of a sound state, and so of every report that is done, a worker's at or above P is
  abbrev pub NoWorkerIsUnplaced : Type 0
  NoWorkerIsUnplaced = (s : Tables) → Sized 𝓜 s → sound 𝓜 s ≡ true → (w c : ℕ) → s.p ≤ w → is_caller (payer 𝓜 s w c) ≡ false

  -- In a state reached from a start no report of at most 65,535 charges is refused, and a charge is placed exactly where its cell is not free.
  pub record ReachedReport (s : Tables) : Type 0 where
    pub done : (n : ℕ) → n ≤ 65535 → reported 𝓜 s n ≡ Done 0
    pub placed : (c : Charge) → is_placed 𝓜 s c ≡ not (is_free (cell 𝓜 s c.worker c.cell))

  abbrev pub OnlyFreeIsUnplaced : Type 0
  OnlyFreeIsUnplaced = (s : Tables) → Reached 𝓜 s → ReachedReport s

  pub record Shown : Type 0 where
    pub each_from_its_own : EachFromItsOwn
    pub nothing_is_lost : NothingIsLost
    pub all_are_counted : AllAreCounted
    pub order_does_not_matter : OrderDoesNotMatter
    pub refused_is_zero : RefusedIsZero
    pub none_is_zero : NoneIsZero
    pub no_worker_is_unplaced : NoWorkerIsUnplaced
    pub only_free_is_unplaced : OnlyFreeIsUnplaced
