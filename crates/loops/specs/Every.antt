-- A chain of an iterator's methods that holds each element of a list to a test: it answers what `each` says of the list. Assumes nothing.
use Rattle.std.specs.Prelude.{ℕ, suc, ◌<◌, ◌≡◌, refl, Bool, true, false, ◌&&◌, List, [], ◌∷◌, length, get_or, HoldsAt, Option, MatchOption}
use Rattle.std.specs.Bool.{MatchBool}
use Rattle.std.specs.Fn.{Called}
use Rattle.std.specs.Iterator.{YieldsThen}
use Rattle.std.specs.List.{AllWithin, FoldsTo, enumerate_from, range_with_len}
use Rattle.std.proofs.Common.{arith, sym, ap, ◌∙◌, ⊎_elim, add-one, zero-add}
use Rattle.std.proofs.lemmas.Bool.{MatchBool-at_true, MatchBool-at_false}
use Rattle.std.proofs.lemmas.Iterator.{YieldsList, cases_from_all}
use Rattle.std.proofs.lemmas.List.FromFn.{length-range_with_len, get_or-range_with_len}
use denote.Param.Members.{Mut}
use Rattle.numbers.specs.Below.{all_below}
use Rattle.numbers.specs.BelowLaws.{all_at, all_of}
use Rattle.numbers.specs.Lists.{each_from, each}
use Rattle.numbers.specs.ListLaws.{each_at, each_of}
use Rattle.numbers.specs.Tests.{absurd_bool, or_else, bool_eq}

module _ {A : Type 0} where
  -- what one pass over a list finds: that each element has q, or one that has not
  abbrev Whole : (A → Bool) → List A → Type 0
  Whole q l = AllWithin (λ y. q y ≡ true) l 0 (length l)

  abbrev Broken : (A → Bool) → List A → Type 0
  Broken q l = (k : ℕ) × (k < length l) × HoldsAt (λ y. q y ≡ false) l k

  found_each : (q : A → Bool) (l : List A) (r : Bool) → MatchBool r (Whole q l) (Broken q l) → r ≡ each (λ i y. q y) l
  unfolding each_from
  found_each q [] r m =
      bool_eq (λ h. refl)
      (λ h. ⊎_elim (λ t. t)
      (λ f. let no = MatchBool-at_false (Whole q []) (Broken q []) f m in absurd (omega (arith, no.1)))
      (or_else r))
  found_each q (x ∷ xs) r m =
      let l = x ∷ xs in
      bool_eq
      (λ h. each_of (λ i y. q y) l x (λ k i. MatchBool-at_true (Whole q l) (Broken q l) h m k x (omega arith) i))
      (λ h. ⊎_elim (λ t. t)
      (λ f. let no = MatchBool-at_false (Whole q l) (Broken q l) f m in absurd_bool (each_at (λ i y. q y) l x h no.0 no.1) (no.2 x))
      (or_else r))

  -- a test of each element and its place is one of each pair of the two
  counted : (p : ℕ → A → Bool) (i j : ℕ) (l : List A) → each_from (λ k y. p y.0 y.1) j (enumerate_from i l) ≡ each_from p i l
  unfolding each_from
  counted p i j [] = refl
  counted p i j (x ∷ xs) = ap (λ (b : Bool). p i x && b) (rw add-one (counted p (suc i) (suc j) xs))

-- how `all` came to r from s, which left u: it called f until an answer was false
abbrev pub Checked : {S I F : Type 0} → (S → Option I → S → Type 0) → Mut F (I × Unit {0}) Bool → S → S → F → Bool → Type 0
Checked {S} {I} {F} steps g s u f r =
    (xs : List I) × (o : Option I) × (j : F) × YieldsThen steps s xs o u × FoldsTo (λ p x q. Called g p (x, tt) true q) f xs j
    × MatchOption o (r ≡ true) (λ x. (r ≡ false) × ((h : F) × Called g j (x, tt) false h))

-- it says what `each` says of the list that s yields
pub all_each : {S I A F : Type 0} {steps : S → Option I → S → Type 0} {v : I → A} {g : Mut F (I × Unit {0}) Bool} {s : S} (u : S) {f : F} {r : Bool} (q : A → Bool) (l : List A)
    → Checked steps g s u f r → YieldsList steps v s l
    → ((x : I) (b : Bool) (f' : F) → Called g f (x, tt) b f' → (f' ≡ f) × (b ≡ q (v x))) → r ≡ each (λ i y. q y) l
all_each u {f} {r} q l ran items says =
    found_each q l r
    (cases_from_all u f r (λ y. q y ≡ true) (λ y. q y ≡ false) ran items
    (λ x f' k. let a = says x true f' k in (a.0, sym a.1)) (λ x f' k. sym (says x false f' k).1))

-- the same of the elements of a list and their places
pub all_placed : {S I A F : Type 0} {steps : S → Option I → S → Type 0} {v : I → ℕ × A} {g : Mut F (I × Unit {0}) Bool} {s : S} (u : S) {f : F} {r : Bool} (p : ℕ → A → Bool)
    (l : List A) → Checked steps g s u f r → YieldsList {B = ℕ × A} steps v s (enumerate_from 0 l)
    → ((x : I) (b : Bool) (f' : F) → Called g f (x, tt) b f' → (f' ≡ f) × (b ≡ p (v x).0 (v x).1)) → r ≡ each p l
all_placed u p l ran items says = all_each u (λ y. p y.0 y.1) (enumerate_from 0 l) ran items says ∙ counted p 0 0 l

each_range : (q : ℕ → Bool) (n : ℕ) → each (λ i k. q k) (range_with_len 0 n) ≡ all_below n q
each_range q n =
    let l = range_with_len 0 n in
    let long = length-range_with_len 0 n in
    let at : (k : ℕ) → k < n → get_or l k 0 ≡ k = λ k i. get_or-range_with_len 0 n k 0 i ∙ zero-add k in
    bool_eq
    (λ h. all_of n q (λ k i. rw (at k i) at (each_at (λ j y. q y) l 0 h k (rw long i))))
    (λ h. each_of (λ j y. q y) l 0 (λ k i. let b : k < n = omega arith in rw (at k b) (all_at n q h k b)))

-- the same of the numbers below n
pub all_below_n : {S I F : Type 0} {steps : S → Option I → S → Type 0} {v : I → ℕ} {g : Mut F (I × Unit {0}) Bool} {s : S} (u : S) {f : F} {r : Bool}
    (q : ℕ → Bool) (n : ℕ) → Checked steps g s u f r → YieldsList steps v s (range_with_len 0 n)
    → ((x : I) (b : Bool) (f' : F) → Called g f (x, tt) b f' → (f' ≡ f) × (b ≡ q (v x))) → r ≡ all_below n q
all_below_n u q n ran items says = all_each u q (range_with_len 0 n) ran items says ∙ each_range q n
