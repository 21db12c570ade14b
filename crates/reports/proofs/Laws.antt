-- The books: one charge more, the charges one after the other, and that those of all the charges are the report. Assumes nothing.
use Prim.Native.Nat.{ℕ, zero, suc, ◌+◌, ◌*◌, ◌/◌, ◌%◌, ◌<◌, ◌≤◌}
use native.Mathlib.Omega.{arith}
use native.Mathlib.Nat.{zero-add, le_of_suc-le-suc, not-suc-le-zero}
use native.Mathlib.Decide.{ℕ_discrete}
use mathlib.Core.Path.{◌≡◌, refl, sym, ap, ap₂, subst, ◌∙◌}
use mathlib.Core.Bool.{Bool, true, false, ◌&&◌, not, cond}
use mathlib.Core.List.{List, [], ◌∷◌}
use borrow.Author.Tests.{ltb-true, ltb-false, eq-eqb, ne_eqb}
use lib.Dec.{ltb, eqb}
use lib.Arith.{digits_lt, digits_div, digits_mod}
use lib.IntN.{ℤ, pos, nat_abs, ◌+ℤ◌, +ℤ_assoc, +ℤ_idl, +ℤ_idr}
use lib.ListN.{length, get_or, set, take, drop, drop_of_length-le, length-set, length-replicate}
use lib.Seq.{take-length, get_or-set_same, get_or-set_other}
use mir.Syntax.{w32, w64}
use mir.Val.{SFits, to_z, of_z}
use Rattle.std.specs.Prelude.{Option, Some, None, is_some}
use Rattle.numbers.specs.Below.{bit}
use Rattle.numbers.specs.Lists.{total}
use Rattle.numbers.specs.ListLaws.{blank, total_cong, listed_at, listed_is}
use Rattle.numbers.specs.Tests.{and_l, and_r}
use Rattle.tables.specs.declared.Outcome.{Outcome}
use Rattle.tables.specs.declared.Outcome.TheVariants.{Done}
use Rattle.tables.specs.Machine.{Machine, Tables, eight}
use Rattle.states.specs.Sound.{sound}
use Rattle.rules.specs.Answers.{succeeds, answered, checked}
use Rattle.rules.specs.Refusals.{report_lines}
use Rattle.rules.specs.Payers.{is_caller, payer}
use Rattle.payers.specs.Ways.{paid_by, payers_of, payer_outside}
use Rattle.reports.specs.declared.Charge.{Charge}
use Rattle.reports.specs.declared.Books.{Books}
use Rattle.reports.specs.Report.{amounts_of, count_of, payer_of, belongs_to, is_placed, taken, reported, report}
use Rattle.reports.specs.Charging.{opened_of, gained, payer_in, charged_one, charged_all, finished_of, count, Within}
use Rattle.reports.proofs.Sizes.{gains_near, gains_bits}

-- ---- no total leaves its range
pub within_opened : (𝓜 : Machine) (s : Tables) (n : ℕ) → Within (opened_of 𝓜 s n) 0
within_opened 𝓜 s n = (omega arith, (λ i. let h = ap nat_abs (blank 256 i (pos 0)) in omega (arith, h)), omega arith)

near_set : (xs : List ℤ) (i j : ℕ) (z : ℤ) (m : ℕ) → nat_abs z ≤ m → nat_abs (get_or xs j (pos 0)) ≤ m → nat_abs (get_or (set xs i z) j (pos 0)) ≤ m
near_set [] i j z m h k = k
near_set (x ∷ xs) zero zero z m h k = h
near_set (x ∷ xs) zero (suc j) z m h k = k
near_set (x ∷ xs) (suc i) zero z m h k = k
near_set (x ∷ xs) (suc i) (suc j) z m h k = near_set xs i j z m h k

pub within_charged : (𝓜 : Machine) (b : Books) (c : Charge) (n : ℕ) → n ≤ 65534 → Within b n → SFits w32 c.amount → Within (charged_one 𝓜 b c) (n + 1)
unfolding charged_one
within_charged 𝓜 b c n few ok f = go (payer_in 𝓜 b.payers c)
  where
    few' : count b ≤ 65535
    few' = omega (arith, ok.0)

    more : (z : ℤ) → nat_abs z ≤ count b * 2147483648 → nat_abs z ≤ (count b + 1) * 2147483648
    more z h = omega (arith, h)

    go : (payer : Option ℕ) → Within (gained payer c.amount b) (n + 1)
    go (Some who) =
        let old = get_or b.totals who (pos 0) in
        let near : (z : ℤ) → nat_abs z ≤ (count b + 1) * 2147483648 → nat_abs z ≤ (b.placed + 1 + b.missed) * 2147483648 = λ z h. omega (arith, h) in (
          omega (arith, ok.0),
          (λ j. near_set b.totals who j (old +ℤ c.amount) _ (near (old +ℤ c.amount) (gains_near old c.amount (count b) few' (ok.1 who) f))
              (near (get_or b.totals j (pos 0)) (more (get_or b.totals j (pos 0)) (ok.1 j)))),
          near b.unplaced (more b.unplaced ok.2),
        )
    go None =
        let near : (z : ℤ) → nat_abs z ≤ (count b + 1) * 2147483648 → nat_abs z ≤ (b.placed + (b.missed + 1)) * 2147483648 = λ z h. omega (arith, h) in (
          omega (arith, ok.0),
          (λ j. near (get_or b.totals j (pos 0)) (more (get_or b.totals j (pos 0)) (ok.1 j))),
          near (b.unplaced +ℤ c.amount) (gains_near b.unplaced c.amount (count b) few' ok.2 f),
        )

-- and so the books that are these
pub within_next : (𝓜 : Machine) (b : Books) (c : Charge) {r : Books} → r ≡ charged_one 𝓜 b c → Within b 65534 → SFits w32 c.amount → Within r (count b + 1)
within_next 𝓜 b c is ok f =
    subst (λ (x : Books). Within x (count b + 1)) (sym is) (within_charged 𝓜 b c (count b) ok.0 (omega arith, ok.1, ok.2) f)

-- ---- one charge, as the code books it: the books are these
module _ (b : Books) (c : Charge) (ok : Within b 65534) (f : SFits w32 c.amount) where
  few : count b ≤ 65535
  few = omega (arith, ok.0)

  module _ {payer : Option ℕ} (is : payer ≡ payer_in eight b.payers c) (r : ℤ) where
    pub books_placed : {who : ℕ} → payer ≡ Some who → r ≡ to_z w64 (of_z w64 (get_or b.totals who (pos 0))) +ℤ to_z w32 (of_z w32 c.amount)
        → ◌≡◌ {A = Books} (record {
          outcome = b.outcome;
          payers = b.payers;
          totals = set b.totals who (to_z w64 (of_z w64 r));
          unplaced = b.unplaced;
          placed = b.placed + 1;
          missed = b.missed;
        }) (charged_one eight b c)
    unfolding charged_one
    books_placed {who} some e =
        rw (← is, some, gains_bits (get_or b.totals who (pos 0)) c.amount (count b) few (ok.1 who) f r e)

    pub books_unplaced : payer ≡ None → r ≡ to_z w64 (of_z w64 b.unplaced) +ℤ to_z w32 (of_z w32 c.amount)
        → ◌≡◌ {A = Books} (record {
          outcome = b.outcome;
          payers = b.payers;
          totals = b.totals;
          unplaced = to_z w64 (of_z w64 r);
          placed = b.placed;
          missed = b.missed + 1;
        }) (charged_one eight b c)
    unfolding charged_one
    books_unplaced none e = rw (← is, none, gains_bits b.unplaced c.amount (count b) few ok.2 f r e)

-- ---- the charges one after the other
drop_at : (cs : List Charge) (i : ℕ) (d : Charge) → i < length cs → drop i cs ≡ get_or cs i d ∷ drop (suc i) cs
drop_at [] i d h = absurd (not-suc-le-zero h)
drop_at (c ∷ cs) zero d h = refl
drop_at (c ∷ cs) (suc i) d h = drop_at cs i d (le_of_suc-le-suc h)

pub charged_next : (𝓜 : Machine) (b : Books) (cs : List Charge) (i : ℕ) (d : Charge) → i < length cs
    → charged_all 𝓜 (charged_one 𝓜 b (get_or cs i d)) (drop (i + 1) cs) ≡ charged_all 𝓜 b (drop i cs)
unfolding charged_all
charged_next 𝓜 b cs i d h = let e : i + 1 ≡ suc i = omega arith in rw (drop_at cs i d h, e)

pub charged_end : (𝓜 : Machine) (b : Books) (cs : List Charge) (i : ℕ) → length cs ≤ i → charged_all 𝓜 b (drop i cs) ≡ b
unfolding charged_all
charged_end 𝓜 b cs i h = rw (drop_of_length-le cs h)

-- ---- the charges that are taken: the list that is walked, and how many
pub taken_is : (o : Outcome) (cs : List Charge) (n : ℕ) → n ≡ cond (succeeds o) (length cs) 0 → take n cs ≡ taken o cs
taken_is o cs n e = rw e (go (succeeds o))
  where
    go : (b : Bool) → take (cond b (length cs) 0) cs ≡ cond b cs []
    go true = take-length cs
    go false = refl

pub taken_few : (s : Tables) (cs : List Charge) → length (taken (reported eight s (length cs)) cs) ≤ 65535
unfolding checked
taken_few s cs = go (sound eight s) (ltb 65535 (length cs)) refl
  where
    go : (a b : Bool) → ltb 65535 (length cs) ≡ b → length (taken (checked (report_lines a (length cs)) (answered (Done 0))).outcome cs) ≤ 65535
    go true true e = rw e (omega arith)
    go true false e = rw e (ltb-false 65535 (length cs) e)
    go false b e = omega arith

-- ---- what a list of charges adds to the books b, by their table of payers
-- whether who pays is this caller
abbrev is_of : ℕ → Option ℕ → Bool
is_of who (Some payer) = eqb payer who
is_of who None = false

module _ (𝓜 : Machine) where
  abbrev pays : List (Option ℕ) → ℕ → Charge → Bool
  pays payers who c = is_of who (payer_in 𝓜 payers c)

  abbrev places : List (Option ℕ) → Charge → Bool
  places payers c = is_some (payer_in 𝓜 payers c)

  pub record Came (payers : List (Option ℕ)) (b r : Books) (cs : List Charge) : Type 0 where
    pub outcome : r.outcome ≡ b.outcome
    pub payers_kept : r.payers ≡ payers
    pub size : length r.totals ≡ 256
    pub total_is : (who : ℕ) → who < 256 → get_or r.totals who (pos 0) ≡ get_or b.totals who (pos 0) +ℤ amounts_of (pays payers who) cs
    pub unplaced : r.unplaced ≡ b.unplaced +ℤ amounts_of (λ c. not (places payers c)) cs
    pub placed : r.placed ≡ b.placed + count_of (places payers) cs
    pub missed : r.missed ≡ b.missed + count_of (λ c. not (places payers c)) cs

  -- no charge, one, and one before others
  came_none : (b : Books) → length b.totals ≡ 256 → Came b.payers b b []
  unfolding amounts_of total
  came_none b n =
      record {
        outcome = refl;
        payers_kept = refl;
        size = n;
        total_is = λ who h. sym (+ℤ_idr (get_or b.totals who (pos 0)));
        unplaced = sym (+ℤ_idr b.unplaced);
        placed = omega arith;
        missed = omega arith;
      }

  came_one : (b : Books) (c : Charge) → length b.totals ≡ 256 → Came b.payers b (charged_one 𝓜 b c) (c ∷ [])
  unfolding charged_one amounts_of total
  came_one b c n = go payer refl
    where
      payer : Option ℕ
      payer = payer_in 𝓜 b.payers c

      -- the amount, where the charge is counted, and else nothing
      adds : (z : ℤ) (t : Bool) → t ≡ true → z +ℤ c.amount ≡ z +ℤ (cond t c.amount (pos 0) +ℤ pos 0)
      adds z t e = rw e (ap (λ (y : ℤ). z +ℤ y) (sym (+ℤ_idr c.amount)))

      keeps : (z : ℤ) (t : Bool) → t ≡ false → z ≡ z +ℤ (cond t c.amount (pos 0) +ℤ pos 0)
      keeps z t e = rw e (sym (+ℤ_idr z))

      go : (o : Option ℕ) → payer ≡ o → Came b.payers b (gained o c.amount b) (c ∷ [])
      go (Some who) e =
          record {
            outcome = refl;
            payers_kept = refl;
            size = length-set b.totals who _ ∙ n;
            total_is = λ k low. at k low (ℕ_discrete k who);
            unplaced = keeps b.unplaced (not (is_some payer)) (ap (λ (o : Option ℕ). not (is_some o)) e);
            placed = rw e (omega arith);
            missed = rw e (omega arith);
          }
        where
          at : (k : ℕ) → k < 256 → Dec (k ≡ who)
              → get_or (set b.totals who (get_or b.totals who (pos 0) +ℤ c.amount)) k (pos 0)
              ≡ get_or b.totals k (pos 0) +ℤ (cond (is_of k payer) c.amount (pos 0) +ℤ pos 0)
          at k low (yes q) =
              rw q
              (get_or-set_same b.totals who (get_or b.totals who (pos 0) +ℤ c.amount) (pos 0) (omega (arith, n, q))
              ∙ adds (get_or b.totals who (pos 0)) (is_of who payer) (ap (is_of who) e ∙ eq-eqb who who refl))
          at k low (no q) =
              get_or-set_other b.totals who k (get_or b.totals who (pos 0) +ℤ c.amount) (pos 0) q
              ∙ keeps (get_or b.totals k (pos 0)) (is_of k payer) (ap (is_of k) e ∙ ne_eqb who k (λ r. q (sym r)))
      go None e =
          record {
            outcome = refl;
            payers_kept = refl;
            size = n;
            total_is = λ k low. keeps (get_or b.totals k (pos 0)) (is_of k payer) (ap (is_of k) e);
            unplaced = adds b.unplaced (not (is_some payer)) (ap (λ (o : Option ℕ). not (is_some o)) e);
            placed = rw e (omega arith);
            missed = rw e (omega arith);
          }

  came_then : (payers : List (Option ℕ)) (b m r : Books) (c : Charge) (cs : List Charge) → Came payers b m (c ∷ []) → Came payers m r cs → Came payers b r (c ∷ cs)
  unfolding amounts_of total
  came_then payers b m r c cs x y =
      record {
        outcome = y.outcome ∙ x.outcome;
        payers_kept = y.payers_kept;
        size = y.size;
        total_is = λ who h. y.total_is who h ∙ joined (get_or b.totals who (pos 0)) (pays payers who) (x.total_is who h);
        unplaced = y.unplaced ∙ joined b.unplaced (λ d. not (places payers d)) x.unplaced;
        placed = let h = x.placed in let k = y.placed in omega (arith, h, k);
        missed = let h = x.missed in let k = y.missed in omega (arith, h, k);
      }
    where
      joined : (z : ℤ) (p : Charge → Bool) {w : ℤ} → w ≡ z +ℤ (cond (p c) c.amount (pos 0) +ℤ pos 0)
          → w +ℤ amounts_of p cs ≡ z +ℤ (cond (p c) c.amount (pos 0) +ℤ amounts_of p cs)
      joined z p e =
          let a = cond (p c) c.amount (pos 0) in
          ap (λ (q : ℤ). q +ℤ amounts_of p cs) (e ∙ ap (λ (q : ℤ). z +ℤ q) (+ℤ_idr a)) ∙ +ℤ_assoc z a (amounts_of p cs)

  came_all : (cs : List Charge) (b : Books) → length b.totals ≡ 256 → Came b.payers b (charged_all 𝓜 b cs) cs
  unfolding charged_all
  came_all [] b n = came_none b n
  came_all (c ∷ cs) b n =
      let m = charged_one 𝓜 b c in
      let one = came_one b c n in
      let rest = subst (λ (l : List (Option ℕ)). Came l m (charged_all 𝓜 m cs) cs) one.payers_kept (came_all cs m one.size) in
      came_then b.payers b m (charged_all 𝓜 m cs) c cs one rest

-- ---- the table of payers says who pays
payer_in_lem : (s : Tables) (c : Charge) → payer_in eight (payers_of eight s) c ≡ paid_by (payer_of eight s c)
unfolding payer_in
payer_in_lem s c = go (ltb w 8 && ltb d 32) refl
  where
    w : ℕ
    w = c.worker

    d : ℕ
    d = c.cell

    go : (t : Bool) → (ltb w 8 && ltb d 32) ≡ t
        → cond t (get_or (payers_of eight s) (w * 32 + d) None) None ≡ paid_by (payer eight s w d)
    go true e =
        let low : w < 8 = ltb-true w 8 (and_l (ltb w 8) (ltb d 32) e) in
        let col : d < 32 = ltb-true d 32 (and_r (ltb w 8) (ltb d 32) e) in
        listed_at (λ i. paid_by (payer eight s (i / 32) (i % 32))) 256 (w * 32 + d) None (digits_lt low col)
        ∙ ap₂ (λ (a b : ℕ). paid_by (payer eight s a b)) (digits_div w col) (digits_mod w col)
    go false e = sym (ap paid_by (payer_outside eight s w d e))

-- and the same callers
is_some_paid : (p : ℕ) → is_some (paid_by p) ≡ is_caller p
is_some_paid p = go (is_caller p)
  where
    go : (t : Bool) → is_some (cond t (Some p) None) ≡ t
    go true = refl
    go false = refl

is_of_paid : (who p : ℕ) → who < 256 → is_of who (paid_by p) ≡ eqb p who
is_of_paid who p low = go (is_caller p) refl
  where
    go : (t : Bool) → is_caller p ≡ t → is_of who (cond t (Some p) None) ≡ eqb p who
    go true e = refl
    go false e = let high : 256 ≤ p = ltb-false p 256 e in sym (ne_eqb p who (λ r. omega arith))

amounts_cong : (p q : Charge → Bool) → ((c : Charge) → p c ≡ q c) → (cs : List Charge) → amounts_of p cs ≡ amounts_of q cs
unfolding amounts_of
amounts_cong p q h [] = refl
amounts_cong p q h (c ∷ cs) = ap₂ (λ (t : Bool) (z : ℤ). cond t c.amount (pos 0) +ℤ z) (h c) (amounts_cong p q h cs)

-- the books of the charges that are taken are the report
pub report_is : (s : Tables) (cs : List Charge)
    → finished_of (charged_all eight (opened_of eight s (length cs)) (taken (reported eight s (length cs)) cs)) ≡ report eight s cs
unfolding report
report_is s cs =
    let o = reported eight s (length cs) in
    let zs = taken o cs in
    let first = opened_of eight s (length cs) in
    let came = came_all eight zs first (length-replicate 256 (pos 0)) in
    let same : (c : Charge) → places eight (payers_of eight s) c ≡ is_placed eight s c = λ c. ap is_some (payer_in_lem s c) ∙ is_some_paid (payer_of eight s c) in
    let none : Charge = record { worker = 0; cell = 0; amount = pos 0 } in
    let totals =
    listed_is (λ who. amounts_of (belongs_to eight s who) zs) (charged_all eight first zs).totals 256 (pos 0) came.size
    (λ who h.
    came.total_is who h
    ∙ ap (λ (z : ℤ). z +ℤ amounts_of (pays eight (payers_of eight s) who) zs) (blank 256 who (pos 0))
    ∙ +ℤ_idl (amounts_of (pays eight (payers_of eight s) who) zs)
    ∙ amounts_cong (pays eight (payers_of eight s) who) (belongs_to eight s who) (λ c. ap (is_of who) (payer_in_lem s c) ∙ is_of_paid who (payer_of eight s c) h) zs) in
    let unplaced =
    came.unplaced
    ∙ +ℤ_idl (amounts_of (λ c. not (places eight (payers_of eight s) c)) zs)
    ∙ amounts_cong (λ c. not (places eight (payers_of eight s) c)) (λ c. not (is_placed eight s c)) (λ c. ap not (same c)) zs in
    let placed =
    came.placed ∙ zero-add _
    ∙ total_cong (λ c. bit (places eight (payers_of eight s) c)) (λ c. bit (is_placed eight s c)) zs none (λ i h. ap bit (same (get_or zs i none))) in
    let missed =
    came.missed ∙ zero-add _
    ∙ total_cong (λ c. bit (not (places eight (payers_of eight s) c))) (λ c. bit (not (is_placed eight s c))) zs none
    (λ i h. ap (λ (t : Bool). bit (not t)) (same (get_or zs i none))) in
    (λ j. record { outcome = came.outcome j; totals = totals j; unplaced = unplaced j; placed = placed j; missed = missed j })
