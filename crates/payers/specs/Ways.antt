-- The table of ways on from each cell, and the walk by it: it finds who pays, as W-202 has it. Assumes nothing.
use Prim.Native.Nat.{ℕ, zero, suc, ◌+◌, ◌-◌, ◌*◌, ◌/◌, ◌%◌, ◌<◌, ◌≤◌}
use Rattle.std.proofs.Common.{arith, ◌∙◌}
use Rattle.std.proofs.Math.Nat.{sub-zero}
use Rattle.std.specs.Prelude.{◌≡◌, Bool, false, ◌&&◌, List, ltb, get_or, Option, None, Some}
use Rattle.std.proofs.Math.Path.{refl, sym, ap, ap₂}
use Rattle.std.proofs.Math.Bool.{true, cond}
use Rattle.std.proofs.Math.Logic.{⊎_elim}
use Rattle.std.proofs.Math.Arith.{digits_lt, digits_div, digits_mod}
use borrow.Author.Tests.{ltb-true}
use Rattle.numbers.specs.Lists.{listed}
use Rattle.numbers.specs.ListLaws.{listed_at}
use Rattle.numbers.specs.Tests.{or_else, and_l, and_r}
use Rattle.tables.specs.declared.Kind.{Kind}
use Rattle.tables.specs.declared.Kind.TheVariants.{Free, Var, Val, Ref, Ex}
use Rattle.tables.specs.Machine.{Machine, Tables}
use Rattle.tables.specs.Parts.{Holding, caller_of}
use Rattle.tables.specs.Look.{cell, entry, end, end_kind, live_entries}
use Rattle.states.specs.Chains.{entry_end}
use Rattle.rules.specs.Payers.{is_caller, pays_from, payer}
use Rattle.payers.specs.declared.Way.{Way}
use Rattle.payers.specs.declared.Way.TheVariants.{PaidBy, LeadsTo, Neither}

-- the caller who pays, none where nobody does
abbrev pub paid_by : ℕ → Option ℕ
paid_by who = cond (is_caller who) (Some who) None

-- who pays at the end of a walk
abbrev pub payer_of : Way → Option ℕ
payer_of (PaidBy caller) = paid_by caller
payer_of (LeadsTo i) = None
payer_of Neither = None

-- what f makes of the cell that a way leads to, or else who pays
abbrev pub walked : (ℕ → Option ℕ) → Way → Option ℕ
walked f (PaidBy caller) = paid_by caller
walked f (LeadsTo i) = f i
walked f Neither = None

-- who pays by a table of ways, from the cell at i on, where at most m references are followed
unfoldable pub pays_by : List Way → ℕ → ℕ → Option ℕ
pays_by ways zero i = payer_of (get_or ways i Neither)
pays_by ways (suc m) i = walked (λ next. pays_by ways m next) (get_or ways i Neither)

-- A walk by this table that has followed i of m references, stands at a cell and is to return r.
pub record Following (ways : List Way) (m i at : ℕ) (r : Option ℕ) : Type 0 where
  pub rest : r ≡ pays_by ways (m - i) at

pub pays_start : (ways : List Way) (m at : ℕ) → Following ways m 0 at (pays_by ways m at)
pays_start ways m at = record { rest = rw sub-zero refl }

-- w is what the code reads there
pub pays_on : {ways : List Way} {m i at next : ℕ} {r : Option ℕ} → Following ways m i at r → i < m → get_or ways at Neither ≡ LeadsTo next
    → Following ways m (i + 1) next r
unfolding pays_by
pays_on {ways} {m} {i} {at} f h w =
    let q : m - i ≡ suc (m - (i + 1)) = omega arith in
    record { rest = rw q at f.rest ∙ rw w }

pub pays_no_further : {ways : List Way} {m i at : ℕ} {r : Option ℕ} → Following ways m i at r → i < m
    → ((j : ℕ) → get_or ways at Neither ≡ LeadsTo j → ⊥) → payer_of (get_or ways at Neither) ≡ r
unfolding pays_by
pays_no_further {ways} {m} {i} {at} f h ended =
    let q : m - i ≡ suc (m - (i + 1)) = omega arith in
    go (get_or ways at Neither) ended ∙ sym (rw q at f.rest)
  where
    go : (w : Way) → ((j : ℕ) → w ≡ LeadsTo j → ⊥) → payer_of w ≡ walked (λ next. pays_by ways (m - (i + 1)) next) w
    go Neither e = refl
    go (PaidBy caller) e = refl
    go (LeadsTo j) e = absurd (e j refl)

pub pays_end : {ways : List Way} {m i at : ℕ} {r : Option ℕ} → Following ways m i at r → m ≤ i → payer_of (get_or ways at Neither) ≡ r
unfolding pays_by
pays_end {m = m} {i = i} f h = let q : m - i ≡ 0 = omega arith in sym (rw q at f.rest)

module _ (𝓜 : Machine) where
  -- how many cells there are
  abbrev pub cell_count : ℕ
  cell_count = 𝓜.workers * 𝓜.cells

  abbrev inside : ℕ → ℕ → Bool
  inside w c = ltb w 𝓜.workers && ltb c 𝓜.cells

  -- the way on by an entry of worker w, to the cell that it names
  abbrev pub led_to : ℕ → Holding → Way
  led_to w None = Neither
  led_to w (Some x) = cond (inside w x.cell) (LeadsTo (w * 𝓜.cells + x.cell)) Neither

module _ (𝓜 : Machine) (s : Tables) where
  -- the end of the cell at the place i of the table
  abbrev pub end_at : ℕ → Kind
  end_at i = end_kind 𝓜 s (i / 𝓜.cells) (i % 𝓜.cells)

  -- the way on from an end that holds this
  abbrev pub way_on : Kind → Way
  way_on Free = Neither
  way_on (Var caller) = PaidBy caller
  way_on (Val n caller) = PaidBy caller
  way_on (Ref c) = Neither
  way_on (Ex o e n st a) = led_to 𝓜 o (entry 𝓜 s o e)

  abbrev pub ways_of : List Way
  ways_of = listed (cell_count 𝓜) (λ i. way_on (end_at i))

  -- who pays for each cell
  abbrev pub payers_of : List (Option ℕ)
  payers_of = listed (cell_count 𝓜) (λ i. paid_by (payer 𝓜 s (i / 𝓜.cells) (i % 𝓜.cells)))

  -- ---- nobody pays for what is not there
  pays_free : (m : ℕ) → pays_from 𝓜 s m Free ≡ 256
  unfolding pays_from
  pays_free zero = refl
  pays_free (suc m) = refl

  end_free : (w c : ℕ) → cell 𝓜 s w c ≡ Free → end_kind 𝓜 s w c ≡ Free
  unfolding end_kind end
  end_free w c q = rw q q

  end_outside : (w c : ℕ) → inside 𝓜 w c ≡ false → end_kind 𝓜 s w c ≡ Free
  unfolding cell
  end_outside w c h = end_free w c (rw h)

  -- a free cell, and one that is out of range
  pub payer_free : (w c : ℕ) → cell 𝓜 s w c ≡ Free → payer 𝓜 s w c ≡ 256
  unfolding payer
  payer_free w c q = ap (pays_from 𝓜 s (live_entries s)) (end_free w c q) ∙ pays_free (live_entries s)

  pub payer_outside : (w c : ℕ) → inside 𝓜 w c ≡ false → payer 𝓜 s w c ≡ 256
  unfolding cell
  payer_outside w c h = payer_free w c (rw h)

  -- ---- the walk by the table is that of W-202
  abbrev n : ℕ
  n = cell_count 𝓜

  abbrev step : ℕ → ℕ → Option ℕ
  step m i = pays_by ways_of m i

  -- one step, of an end that holds k
  one : (m : ℕ) (k : Kind) → ((j : ℕ) → j < n → step m j ≡ paid_by (pays_from 𝓜 s m (end_at j)))
      → walked (step m) (way_on k) ≡ paid_by (pays_from 𝓜 s (suc m) k)
  unfolding pays_from
  one m Free rec = refl
  one m (Var caller) rec = refl
  one m (Val v caller) rec = refl
  one m (Ref c) rec = refl
  one m (Ex o e w st a) rec = by (entry 𝓜 s o e)
    where
      by : (x : Holding) → walked (step m) (led_to 𝓜 o x) ≡ paid_by (pays_from 𝓜 s m (entry_end 𝓜 s o x))
      by None = sym (ap paid_by (pays_free m))
      by (Some x) = at x.cell
        where
          at : (c : ℕ) → walked (step m) (cond (inside 𝓜 o c) (LeadsTo (o * 𝓜.cells + c)) Neither) ≡ paid_by (pays_from 𝓜 s m (end_kind 𝓜 s o c))
          at c = ⊎_elim within outside (or_else (inside 𝓜 o c))
            where
              within : inside 𝓜 o c ≡ true
                  → walked (step m) (cond (inside 𝓜 o c) (LeadsTo (o * 𝓜.cells + c)) Neither) ≡ paid_by (pays_from 𝓜 s m (end_kind 𝓜 s o c))
              within h =
                  let ow : o < 𝓜.workers = ltb-true o 𝓜.workers (and_l (ltb o 𝓜.workers) (ltb c 𝓜.cells) h) in
                  let cl : c < 𝓜.cells = ltb-true c 𝓜.cells (and_r (ltb o 𝓜.workers) (ltb c 𝓜.cells) h) in
                  rw h
                  (rec (o * 𝓜.cells + c) (digits_lt ow cl)
                  ∙ ap₂ (λ (a b : ℕ). paid_by (pays_from 𝓜 s m (end_kind 𝓜 s a b))) (digits_div o cl) (digits_mod o cl))

              outside : inside 𝓜 o c ≡ false
                  → walked (step m) (cond (inside 𝓜 o c) (LeadsTo (o * 𝓜.cells + c)) Neither) ≡ paid_by (pays_from 𝓜 s m (end_kind 𝓜 s o c))
              outside h = rw h (sym (ap (λ (k : Kind). paid_by (pays_from 𝓜 s m k)) (end_outside o c h) ∙ ap paid_by (pays_free m)))

  last : (k : Kind) → payer_of (way_on k) ≡ paid_by (caller_of k)
  last Free = refl
  last (Var caller) = refl
  last (Val v caller) = refl
  last (Ref c) = refl
  last (Ex o e w st a) = by (entry 𝓜 s o e)
    where
      by : (x : Holding) → payer_of (led_to 𝓜 o x) ≡ None
      by None = refl
      by (Some x) = on (inside 𝓜 o x.cell)
        where
          on : (b : Bool) → payer_of (cond b (LeadsTo (o * 𝓜.cells + x.cell)) Neither) ≡ None
          on true = refl
          on false = refl

  pays_by_lem : (m i : ℕ) → i < n → step m i ≡ paid_by (pays_from 𝓜 s m (end_at i))
  unfolding pays_by pays_from
  pays_by_lem zero i h = rw (listed_at (λ j. way_on (end_at j)) n i Neither h) (last (end_at i))
  pays_by_lem (suc m) i h = rw (listed_at (λ j. way_on (end_at j)) n i Neither h) (one m (end_at i) (pays_by_lem m))

  -- who pays for the cell at i
  pub pays_is : (ways : List Way) (m i : ℕ) → ways ≡ ways_of → m ≡ live_entries s → i < n → {r : Option ℕ} → r ≡ pays_by ways m i
      → r ≡ paid_by (payer 𝓜 s (i / 𝓜.cells) (i % 𝓜.cells))
  unfolding payer
  pays_is ways m i is e h r = r ∙ rw (is, e) (pays_by_lem (live_entries s) i h)
