-- A loop that fills a table, one place after the other, and a table that a closure makes. Assumes nothing.
use Rattle.std.specs.Prelude.{ℕ, zero, suc, ◌+◌, ◌≤◌, ◌<◌, ◌≡◌, List, length, get_or, set}
use Rattle.std.specs.Array.{IsFromFnResultFrom, IsFromFnResult}
use Rattle.std.specs.Fn.{Called}
use Rattle.std.proofs.Common.{arith, ◌∙◌, subst, ⊎_elim, zero-add, length-set, get_or-set_same, get_or-set_other}
use Rattle.std.proofs.Math.Nat.{add-zero}
use denote.Param.Members.{Mut}
use Rattle.numbers.specs.Lists.{listed}
use Rattle.numbers.specs.ListLaws.{listed_is}
use Rattle.numbers.specs.BelowLaws.{below_cases}

module _ {A : Type 0} where
  -- Of a table of n places the first i hold what f says of them; d is read where there is no place.
  pub record Filling (f : ℕ → A) (n i : ℕ) (d : A) (l : List A) : Type 0 where
    pub within : i ≤ n
    pub size : length l ≡ n
    pub at : (j : ℕ) → j < i → get_or l j d ≡ f j

  pub fill_start : (f : ℕ → A) (n : ℕ) (d : A) (l : List A) → length l ≡ n → Filling f n 0 d l
  fill_start f n d l h = record { within = omega arith; size = h; at = λ j k. absurd (omega arith) }

  pub fill_step : {f : ℕ → A} {n i : ℕ} {d : A} {l : List A} {x : A} → Filling f n i d l → i < n → x ≡ f i → Filling f n (i + 1) d (set l i x)
  fill_step {f} {n} {i} {d} {l} {x} s h e =
      record {
        within = omega arith;
        size = simp length-set s.size;
        at = λ j k. ⊎_elim
            (λ (a : j < i). get_or-set_other l i j x d (λ q. omega arith) ∙ s.at j a)
            (λ (a : j ≡ i). rw a (get_or-set_same l i x d (let m = s.size in omega arith) ∙ e))
            (below_cases j i (omega arith));
      }

  pub fill_end : {f : ℕ → A} {n i : ℕ} {d : A} {l : List A} → Filling f n i d l → n ≤ i → l ≡ listed n f
  fill_end {f} {n} {i} {d} {l} s h = listed_is f l n d s.size (λ k j. s.at k (omega arith))

  -- ---- a table of n places that is made by calls of f, which says h of each number
  module _ {F : Type 0} {g : Mut F (ℕ × Unit {0}) A} {f : F} (h : ℕ → A)
      (says : (i : ℕ) (y : A) (f' : F) → Called g f (i, tt) y f' → (f' ≡ f) × (y ≡ h i)) (l : List A) where
    made_from : (n i : ℕ) → IsFromFnResultFrom g f l i n → (k : ℕ) (d : A) → k < n → get_or l (i + k) d ≡ h (i + k)
    made_from zero i r k d b = absurd (omega arith)
    made_from (suc n) i r zero d b = rw add-zero (r.2.1 d ∙ (says i r.1 r.0 r.3).1)
    made_from (suc n) i r (suc k) d b =
        let e : i + suc k ≡ (i + 1) + k = omega arith in
        rw e (made_from n (i + 1) (subst (λ (q : F). IsFromFnResultFrom g q l (i + 1) n) (says i r.1 r.0 r.3).0 r.4) k d (omega arith))

    pub made : {n : ℕ} → IsFromFnResult g f l n → (k : ℕ) (d : A) → k < n → get_or l k d ≡ h k
    made {n} r k d b = rw zero-add at (made_from n 0 r.each k d b)
