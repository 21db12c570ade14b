-- What is shown of the report: its totals add up to the amounts, and its numbers to the length of the list, in whatever order the charges come; a
-- report that is refused is all zeros; and in a state reached from a start only charges of free cells are unplaced. Assumes nothing.
use Prim.Native.Nat.{ℕ, zero, suc, ◌+◌, ◌≤◌, ◌<◌}
use native.Mathlib.Omega.{arith}
use native.Mathlib.Decide.{ℕ_discrete, dec_lt}
use mathlib.Core.Path.{◌≡◌, refl, sym, ap, ap₂, ◌∙◌}
use mathlib.Core.Bool.{Bool, true, false, not, cond}
use mathlib.Core.List.{List, [], ◌∷◌}
use lib.Dec.{eqb, ltb}
use lib.IntN.{ℤ, pos, ◌+ℤ◌, +ℤ_assoc, +ℤ_comm, +ℤ_idl, +ℤ_idr}
use lib.ListN.{length, get_or, replicate, length-replicate}
use borrow.Author.Tests.{eq-eqb, ne_eqb, lt-ltb, le-ltb}
use Rattle.numbers.specs.Below.{bit}
use Rattle.numbers.specs.Lists.{total, listed_from, listed}
use Rattle.numbers.specs.ListLaws.{blank, listed_at, listed_is, listed_cong}
use Rattle.tables.specs.declared.Refusal.TheVariants.{NotSound, TooManyCharges}
use Rattle.tables.specs.declared.Outcome.{Outcome}
use Rattle.tables.specs.declared.Outcome.TheVariants.{Done}
use Rattle.tables.specs.Machine.{Machine, Tables, eight}
use Rattle.tables.specs.Parts.{is_free}
use Rattle.tables.specs.Look.{cell}
use Rattle.states.specs.Machines.{Laws}
use Rattle.states.proofs.FromTest.{sound_facts}
use Rattle.states.proofs.Derived.{cell_used}
use Rattle.rules.specs.Answers.{succeeds, answered, ◌when◌, checked}
use Rattle.rules.specs.Payers.{is_caller, payer}
use Rattle.rules.proofs.Steps.{free_is}
use Rattle.rules.proofs.Whole.{demand_3}
use Rattle.rules.proofs.Eight.{eight_laws}
use Rattle.payers.specs.Ways.{payer_free}
use Rattle.reports.specs.declared.Charge.{Charge}
use Rattle.reports.specs.declared.CostReport.{CostReport}
use Rattle.reports.specs.Report.{amounts_of, count_of, payer_of, belongs_to, is_placed, taken, totalled, reported, report}
use Rattle.reports.specs.Statements.{sum_of, amounts, Reordered, none, first_stays, two_exchanged, and_then, IsDone, OrderDoesNotMatter, AllZero, NoWorkerIsUnplaced, OnlyFreeIsUnplaced, Shown}

-- ---- sums
mixed : (a b x y : ℤ) → (a +ℤ b) +ℤ (x +ℤ y) ≡ (a +ℤ x) +ℤ (b +ℤ y)
mixed a b x y =
    +ℤ_assoc a b (x +ℤ y)
    ∙ ap (λ (z : ℤ). a +ℤ z) (sym (+ℤ_assoc b x y) ∙ ap (λ (z : ℤ). z +ℤ y) (+ℤ_comm b x) ∙ +ℤ_assoc x b y)
    ∙ sym (+ℤ_assoc a x (b +ℤ y))

sum_add : (f g : ℕ → ℤ) (n i : ℕ) → sum_of (listed_from (λ k. f k +ℤ g k) n i) ≡ sum_of (listed_from f n i) +ℤ sum_of (listed_from g n i)
unfolding sum_of listed_from
sum_add f g zero i = refl
sum_add f g (suc n) i =
    ap (λ (z : ℤ). (f i +ℤ g i) +ℤ z) (sum_add f g n (suc i)) ∙ mixed (f i) (g i) (sum_of (listed_from f n (suc i))) (sum_of (listed_from g n (suc i)))

sum_none : (f : ℕ → ℤ) (n i : ℕ) → ((k : ℕ) → i ≤ k → k < i + n → f k ≡ pos 0) → sum_of (listed_from f n i) ≡ pos 0
unfolding sum_of listed_from
sum_none f zero i h = refl
sum_none f (suc n) i h =
    ap₂ (λ (x y : ℤ). x +ℤ y) (h i (omega arith) (omega arith)) (sum_none f n (suc i) (λ k a b. h k (omega arith) (omega arith)))

-- of all numbers one has the amount
abbrev only : ℕ → ℤ → ℕ → ℤ
only p a k = cond (eqb p k) a (pos 0)

only_other : (p : ℕ) (a : ℤ) (k : ℕ) → ((p ≡ k) → ⊥) → only p a k ≡ pos 0
only_other p a k h = rw (ne_eqb p k h)

sum_one : (p : ℕ) (a : ℤ) (n i : ℕ) → i ≤ p → p < i + n → sum_of (listed_from (only p a) n i) ≡ a
unfolding sum_of listed_from
sum_one p a zero i h k = absurd (omega arith)
sum_one p a (suc n) i h k = go (ℕ_discrete p i) (λ l. sum_one p a n (suc i) l (omega arith))
  where
    go : Dec (p ≡ i) → (suc i ≤ p → sum_of (listed_from (only p a) n (suc i)) ≡ a) → only p a i +ℤ sum_of (listed_from (only p a) n (suc i)) ≡ a
    go (yes q) later =
        ap₂ (λ (x y : ℤ). x +ℤ y) (ap (λ (t : Bool). cond t a (pos 0)) (eq-eqb p i q))
        (sum_none (only p a) n (suc i) (λ j l m. only_other p a j (λ r. omega arith)))
        ∙ +ℤ_idr a
    go (no q) later = ap₂ (λ (x y : ℤ). x +ℤ y) (only_other p a i q) (later (omega (arith, q))) ∙ +ℤ_idl a

-- an amount is in one of n totals, or is unplaced
spread : (p : ℕ) (a : ℤ) (n : ℕ) → sum_of (listed n (only p a)) +ℤ cond (not (ltb p n)) a (pos 0) ≡ a
spread p a n = go (dec_lt p n)
  where
    go : Dec (p < n) → sum_of (listed n (only p a)) +ℤ cond (not (ltb p n)) a (pos 0) ≡ a
    go (yes l) = rw (lt-ltb p n l) (ap (λ (z : ℤ). z +ℤ pos 0) (sum_one p a n 0 (omega arith) (omega arith)) ∙ +ℤ_idr a)
    go (no l) =
        let high : n ≤ p = omega arith in
        rw (le-ltb p n high) (ap (λ (z : ℤ). z +ℤ a) (sum_none (only p a) n 0 (λ k i j. only_other p a k (λ r. omega arith))) ∙ +ℤ_idl a)

module _ (𝓜 : Machine) (s : Tables) where
  abbrev unplaced : List Charge → ℤ
  unplaced cs = amounts_of (λ c. not (is_placed 𝓜 s c)) cs

  all_amounts : (n : ℕ) (cs : List Charge)
      → sum_of (listed n (λ who. amounts_of (belongs_to 𝓜 s who) cs)) +ℤ amounts_of (λ c. not (ltb (payer_of 𝓜 s c) n)) cs ≡ amounts cs
  unfolding amounts_of amounts
  all_amounts n [] = ap (λ (z : ℤ). z +ℤ pos 0) (sum_none (λ k. pos 0) n 0 (λ k i j. refl))
  all_amounts n (c ∷ cs) =
      let p = payer_of 𝓜 s c in
      let later : ℕ → ℤ = λ who. amounts_of (belongs_to 𝓜 s who) cs in
      let left = amounts_of (λ d. not (ltb (payer_of 𝓜 s d) n)) cs in
      ap (λ (z : ℤ). z +ℤ (cond (not (ltb p n)) c.amount (pos 0) +ℤ left)) (sum_add (only p c.amount) later n 0)
      ∙ mixed (sum_of (listed n (only p c.amount))) (sum_of (listed n later)) (cond (not (ltb p n)) c.amount (pos 0)) left
      ∙ ap₂ (λ (x y : ℤ). x +ℤ y) (spread p c.amount n) (all_amounts n cs)

  all_counted : (p : Charge → Bool) (cs : List Charge) → count_of p cs + count_of (λ c. not (p c)) cs ≡ length cs
  unfolding total
  all_counted p [] = refl
  all_counted p (c ∷ cs) = let h = all_counted p cs in let k = one (p c) in omega (arith, h, k)
    where
      one : (t : Bool) → bit t + bit (not t) ≡ 1
      one true = refl
      one false = refl

-- ---- in another order
amounts_reordered : (p : Charge → Bool) {cs ds : List Charge} → Reordered cs ds → amounts_of p cs ≡ amounts_of p ds
unfolding amounts_of
amounts_reordered p none = refl
amounts_reordered p (first_stays c r) = ap (λ (z : ℤ). cond (p c) c.amount (pos 0) +ℤ z) (amounts_reordered p r)
amounts_reordered p (two_exchanged c d cs) =
    let x = cond (p c) c.amount (pos 0) in
    let y = cond (p d) d.amount (pos 0) in
    sym (+ℤ_assoc x y (amounts_of p cs)) ∙ ap (λ (z : ℤ). z +ℤ amounts_of p cs) (+ℤ_comm x y) ∙ +ℤ_assoc y x (amounts_of p cs)
amounts_reordered p (and_then q r) = amounts_reordered p q ∙ amounts_reordered p r

count_reordered : (f : Charge → ℕ) {cs ds : List Charge} → Reordered cs ds → total f cs ≡ total f ds
unfolding total
count_reordered f none = refl
count_reordered f (first_stays c r) = ap (λ (n : ℕ). f c + n) (count_reordered f r)
count_reordered f (two_exchanged c d cs) = omega arith
count_reordered f (and_then q r) = count_reordered f q ∙ count_reordered f r

length_reordered : {cs ds : List Charge} → Reordered cs ds → length cs ≡ length ds
length_reordered none = refl
length_reordered (first_stays c r) = ap suc (length_reordered r)
length_reordered (two_exchanged c d cs) = refl
length_reordered (and_then q r) = length_reordered q ∙ length_reordered r

-- ---- the whole
module _ (𝓜 : Machine) where
  -- a report that is done books all charges, and one that is refused none
  done_is : (s : Tables) (cs : List Charge) → IsDone 𝓜 s cs → report 𝓜 s cs ≡ totalled 𝓜 s (reported 𝓜 s (length cs)) cs
  unfolding report
  done_is s cs h = ap (λ (t : Bool). totalled 𝓜 s (reported 𝓜 s (length cs)) (cond t cs [])) h

  refused_is : (s : Tables) (cs : List Charge) → succeeds (report 𝓜 s cs).outcome ≡ false → report 𝓜 s cs ≡ totalled 𝓜 s (reported 𝓜 s (length cs)) []
  unfolding report
  refused_is s cs h = ap (λ (t : Bool). totalled 𝓜 s (reported 𝓜 s (length cs)) (cond t cs [])) h

  none_charged : (s : Tables) → report 𝓜 s [] ≡ totalled 𝓜 s (reported 𝓜 s 0) []
  unfolding report
  none_charged s = go (succeeds (reported 𝓜 s 0))
    where
      go : (t : Bool) → totalled 𝓜 s (reported 𝓜 s 0) (cond t [] []) ≡ totalled 𝓜 s (reported 𝓜 s 0) []
      go true = refl
      go false = refl

  none_zero : (s : Tables) (cs : List Charge) (o : Outcome) → report 𝓜 s cs ≡ totalled 𝓜 s o [] → AllZero 𝓜 s cs
  unfolding amounts_of total
  none_zero s cs o e =
      record {
        totals = ap (λ (r : CostReport). r.totals) e
            ∙ sym (listed_is (λ who. pos 0) (replicate 256 (pos 0)) 256 (pos 0) (length-replicate 256 (pos 0)) (λ k h. blank 256 k (pos 0)));
        unplaced = ap (λ (r : CostReport). r.unplaced) e;
        placed = ap (λ (r : CostReport). r.placed) e;
        missed = ap (λ (r : CostReport). r.missed) e;
      }

  reordered : OrderDoesNotMatter 𝓜
  unfolding report
  reordered s cs ds r = go (reported 𝓜 s (length cs)) (reported 𝓜 s (length ds)) (ap (reported 𝓜 s) (length_reordered r))
    where
      same : (o : Outcome) → totalled 𝓜 s o cs ≡ totalled 𝓜 s o ds
      same o =
          let totals =
          listed_cong (λ who. amounts_of (belongs_to 𝓜 s who) cs) (λ who. amounts_of (belongs_to 𝓜 s who) ds) 256
          (λ who h. amounts_reordered (belongs_to 𝓜 s who) r) in
          let unplaced = amounts_reordered (λ c. not (is_placed 𝓜 s c)) r in
          let placed = count_reordered (λ c. bit (is_placed 𝓜 s c)) r in
          let missed = count_reordered (λ c. bit (not (is_placed 𝓜 s c))) r in
          (λ j. record { outcome = o; totals = totals j; unplaced = unplaced j; placed = placed j; missed = missed j })

      either : (t : Bool) (o : Outcome) → totalled 𝓜 s o (cond t cs []) ≡ totalled 𝓜 s o (cond t ds [])
      either true o = same o
      either false o = refl

      go : (o p : Outcome) → o ≡ p → totalled 𝓜 s o (taken o cs) ≡ totalled 𝓜 s p (taken p ds)
      go o p e = either (succeeds o) o ∙ ap (λ (q : Outcome). totalled 𝓜 s q (taken q ds)) e

module _ (𝓜 : Machine) (L : Laws 𝓜) where
  -- a cell of a worker that there is none of is free
  no_worker_lem : NoWorkerIsUnplaced 𝓜
  no_worker_lem s z h w c l = go (is_free (cell 𝓜 s w c)) refl
    where
      go : (t : Bool) → is_free (cell 𝓜 s w c) ≡ t → is_caller (payer 𝓜 s w c) ≡ false
      go true e = ap is_caller (payer_free 𝓜 s w c (free_is (cell 𝓜 s w c) e))
      go false e = let u = cell_used 𝓜 s (sound_facts 𝓜 L s z h) w c e in absurd (omega arith)

  reached : OnlyFreeIsUnplaced 𝓜
  unfolding checked
  reached s r =
      let D = demand_3 𝓜 L in
      record {
        done = λ n few.
            ap₂ (λ (a b : Bool). (checked ((NotSound when not a) ∷ (TooManyCharges when b) ∷ []) (answered (Done 0))).outcome)
            (D.stays_sound s r) (le-ltb 65535 n few);
        placed = λ c. D.every_cell_is_paid s r c.worker c.cell;
      }

  shown : Shown 𝓜
  shown =
      record {
        each_from_its_own = λ s cs h.
            let is = done_is 𝓜 s cs h in
            record {
              total = λ who low. ap (λ (x : CostReport). get_or x.totals who (pos 0)) is ∙ listed_at (λ k. amounts_of (belongs_to 𝓜 s k) cs) 256 who (pos 0) low;
              unplaced = ap (λ (x : CostReport). x.unplaced) is;
              placed = ap (λ (x : CostReport). x.placed) is;
              missed = ap (λ (x : CostReport). x.missed) is;
            };
        nothing_is_lost = λ s cs h. ap (λ (x : CostReport). sum_of x.totals +ℤ x.unplaced) (done_is 𝓜 s cs h) ∙ all_amounts 𝓜 s 256 cs;
        all_are_counted = λ s cs h. ap (λ (x : CostReport). x.placed + x.missed) (done_is 𝓜 s cs h) ∙ all_counted 𝓜 s (is_placed 𝓜 s) cs;
        order_does_not_matter = reordered 𝓜;
        refused_is_zero = λ s cs h. none_zero 𝓜 s cs (reported 𝓜 s (length cs)) (refused_is 𝓜 s cs h);
        none_is_zero = λ s. none_zero 𝓜 s [] (reported 𝓜 s 0) (none_charged 𝓜 s);
        no_worker_is_unplaced = no_worker_lem;
        only_free_is_unplaced = reached;
      }

pub shown_of_eight : Shown eight
shown_of_eight = shown eight eight_laws
