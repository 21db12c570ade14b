-- The laws of each and total: what they say of every place of the list. Assumes nothing.
use Prim.Native.Nat.{ℕ, zero, suc, ◌+◌, ◌≤◌, ◌<◌}
use native.Mathlib.Omega.{arith}
use Rattle.std.proofs.Math.Nat.{add-zero}
use Rattle.std.proofs.Common.{zero-add, ◌∙◌}
use Rattle.std.specs.Prelude.{◌≡◌, Bool, true, ◌≢◌, get_or, set, replicate}
use Rattle.std.proofs.Math.Path.{refl, sym, ap}
use mathlib.Core.List.{List, [], ◌∷◌}
use Rattle.std.proofs.Math.ListN.{length}
use Rattle.numbers.specs.Below.{sum_below}
use Rattle.numbers.specs.Lists.{each_from, each, total, listed_from, listed}
use Rattle.numbers.specs.Tests.{and_l, and_r, and_i}
use Rattle.numbers.specs.BelowLaws.{sum_front}

module _ {A : Type 0} where
  each_from_at : (p : ℕ → A → Bool) (i : ℕ) (l : List A) (d : A) → each_from p i l ≡ true → (k : ℕ) → k < length l → p (i + k) (get_or l k d) ≡ true
  unfolding each_from
  each_from_at p i [] d h k q = absurd (omega arith)
  each_from_at p i (x ∷ xs) d h zero q = rw add-zero (and_l (p i x) (each_from p (suc i) xs) h)
  each_from_at p i (x ∷ xs) d h (suc k) q =
      let e : i + suc k ≡ suc i + k = omega arith in
      rw e (each_from_at p (suc i) xs d (and_r (p i x) (each_from p (suc i) xs) h) k (omega arith))

  each_from_of : (p : ℕ → A → Bool) (i : ℕ) (l : List A) (d : A) → ((k : ℕ) → k < length l → p (i + k) (get_or l k d) ≡ true) → each_from p i l ≡ true
  unfolding each_from
  each_from_of p i [] d h = refl
  each_from_of p i (x ∷ xs) d h =
      and_i (rw add-zero at (h 0 (omega arith)))
      (each_from_of p (suc i) xs d (λ k q. let e : i + suc k ≡ suc i + k = omega arith in rw e at (h (suc k) (omega arith))))

  -- what holds of each element holds at each place
  pub each_at : (p : ℕ → A → Bool) (l : List A) (d : A) → each p l ≡ true → (k : ℕ) → k < length l → p k (get_or l k d) ≡ true
  each_at p l d h k q = rw zero-add at (each_from_at p 0 l d h k q)

  pub each_of : (p : ℕ → A → Bool) (l : List A) (d : A) → ((k : ℕ) → k < length l → p k (get_or l k d) ≡ true) → each p l ≡ true
  each_of p l d h = each_from_of p 0 l d (λ k q. rw zero-add (h k q))

  -- ---- sums
  pub total_below : (f : A → ℕ) (l : List A) (d : A) → total f l ≡ sum_below (length l) (λ k. f (get_or l k d))
  unfolding total sum_below
  total_below f [] d = refl
  total_below f (x ∷ xs) d =
      ap (λ (n : ℕ). f x + n) (total_below f xs d) ∙ sym (sum_front (length xs) (λ k. f (get_or (x ∷ xs) k d)))

  -- after a store
  pub total-set : (f : A → ℕ) (l : List A) (i : ℕ) (a d : A) → i < length l → total f (set l i a) + f (get_or l i d) ≡ total f l + f a
  unfolding total
  total-set f [] i a d h = absurd (omega arith)
  total-set f (x ∷ xs) zero a d h = omega arith
  total-set f (x ∷ xs) (suc i) a d h = omega (arith, total-set f xs i a d (omega arith))

  -- one element is at most the sum, and so are two
  pub total_at : (f : A → ℕ) (l : List A) (i : ℕ) (d : A) → f d ≡ 0 → f (get_or l i d) ≤ total f l
  unfolding total
  total_at f [] i d z = omega arith
  total_at f (x ∷ xs) zero d z = omega arith
  total_at f (x ∷ xs) (suc i) d z = omega (arith, total_at f xs i d z)

  pub total_two : (f : A → ℕ) (l : List A) (i j : ℕ) (d : A) → f d ≡ 0 → i ≢ j → f (get_or l i d) + f (get_or l j d) ≤ total f l
  unfolding total
  total_two f [] i j d z h = omega arith
  total_two f (x ∷ xs) zero zero d z h = absurd (h refl)
  total_two f (x ∷ xs) zero (suc j) d z h = omega (arith, total_at f xs j d z)
  total_two f (x ∷ xs) (suc i) zero d z h = omega (arith, total_at f xs i d z)
  total_two f (x ∷ xs) (suc i) (suc j) d z h = omega (arith, total_two f xs i j d z (λ q. h (ap suc q)))

  -- a sum that is not 0 has an element that is not 0
  pub total_some : (f : A → ℕ) (l : List A) (d : A) → 1 ≤ total f l → (i : ℕ) × (i < length l) × (1 ≤ f (get_or l i d))
  unfolding total
  total_some f [] d h = absurd (omega arith)
  total_some f (x ∷ xs) d h = go (f x) refl (λ k. total_some f xs d k)
    where
      go : (n : ℕ) → f x ≡ n → (1 ≤ total f xs → (i : ℕ) × (i < length xs) × (1 ≤ f (get_or xs i d)))
          → (i : ℕ) × (i < length (x ∷ xs)) × (1 ≤ f (get_or (x ∷ xs) i d))
      go zero e rec =
          let r : (i : ℕ) × (i < length xs) × (1 ≤ f (get_or xs i d)) = rec (omega arith) in
          (suc r.0, omega (arith, r.1), r.2)
      go (suc n) e rec = (0, omega arith, omega arith)

  -- sums of equal terms, and of terms that are 0
  pub total_cong : (f g : A → ℕ) (l : List A) (d : A) → ((i : ℕ) → i < length l → f (get_or l i d) ≡ g (get_or l i d)) → total f l ≡ total g l
  unfolding total
  total_cong f g [] d h = refl
  total_cong f g (x ∷ xs) d h = omega (arith, h 0 (omega arith), total_cong f g xs d (λ i k. h (suc i) (omega arith)))

  pub total_none : (f : A → ℕ) (l : List A) (d : A) → ((i : ℕ) → i < length l → f (get_or l i d) ≡ 0) → total f l ≡ 0
  unfolding total
  total_none f [] d h = refl
  total_none f (x ∷ xs) d h = omega (arith, h 0 (omega arith), total_none f xs d (λ i k. h (suc i) (omega arith)))

  pub total_mono : (f g : A → ℕ) (l : List A) (d : A) → ((i : ℕ) → i < length l → f (get_or l i d) ≤ g (get_or l i d)) → total f l ≤ total g l
  unfolding total
  total_mono f g [] d h = omega arith
  total_mono f g (x ∷ xs) d h = omega (arith, h 0 (omega arith), total_mono f g xs d (λ i k. h (suc i) (omega arith)))

  -- a table of blanks holds a blank at every number
  pub blank : (n i : ℕ) (d : A) → get_or (replicate n d) i d ≡ d
  blank zero i d = refl
  blank (suc n) zero d = refl
  blank (suc n) (suc i) d = blank n i d

  -- ---- the list of what a function says of each number
  pub length_listed : (f : ℕ → A) (n i : ℕ) → length (listed_from f n i) ≡ n
  unfolding listed_from
  length_listed f zero i = refl
  length_listed f (suc n) i = ap suc (length_listed f n (suc i))

  listed_from_at : (f : ℕ → A) (n i k : ℕ) (d : A) → k < n → get_or (listed_from f n i) k d ≡ f (i + k)
  unfolding listed_from
  listed_from_at f zero i k d h = absurd (omega arith)
  listed_from_at f (suc n) i zero d h = ap f (sym (add-zero i))
  listed_from_at f (suc n) i (suc k) d h =
      let e : suc i + k ≡ i + suc k = omega arith in
      listed_from_at f n (suc i) k d (omega arith) ∙ ap f e

  pub listed_at : (f : ℕ → A) (n k : ℕ) (d : A) → k < n → get_or (listed n f) k d ≡ f k
  listed_at f n k d h = listed_from_at f n 0 k d h ∙ ap f (zero-add k)

  -- a list of n elements with these elements is this list
  listed_from_is : (f : ℕ → A) (l : List A) (n i : ℕ) (d : A) → length l ≡ n → ((k : ℕ) → k < n → get_or l k d ≡ f (i + k)) → l ≡ listed_from f n i
  unfolding listed_from
  listed_from_is f [] zero i d q h = refl
  listed_from_is f [] (suc n) i d q h = absurd (omega arith)
  listed_from_is f (x ∷ xs) zero i d q h = absurd (omega arith)
  listed_from_is f (x ∷ xs) (suc n) i d q h =
      let here : x ≡ f i = h 0 (omega arith) ∙ ap f (add-zero i) in
      let later = listed_from_is f xs n (suc i) d (omega arith)
      (λ k l. h (suc k) (omega arith) ∙ ap f (let e : i + suc k ≡ suc i + k = omega arith in e)) in
      (λ j. here j ∷ later j)

  pub listed_is : (f : ℕ → A) (l : List A) (n : ℕ) (d : A) → length l ≡ n → ((k : ℕ) → k < n → get_or l k d ≡ f k) → l ≡ listed n f
  listed_is f l n d q h = listed_from_is f l n 0 d q (λ k j. h k j ∙ ap f (sym (zero-add k)))

  pub listed_cong : (f g : ℕ → A) (n : ℕ) → ((k : ℕ) → k < n → f k ≡ g k) → listed n f ≡ listed n g
  listed_cong f g n h = listed_is g (listed n f) n (f 0) (length_listed f n 0) (λ k j. listed_at f n k (f 0) j ∙ h k j)
