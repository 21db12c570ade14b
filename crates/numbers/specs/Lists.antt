-- Tests and sums over a whole list, element by element, which say what `all_below` and `sum_below` say of the list's places, and are run in one
-- pass; and the list of what a function says of each number. Assumes nothing.
use Rattle.std.specs.Prelude.{ℕ, zero, suc, ◌+◌, Bool, true, ◌&&◌, List, [], ◌∷◌}

module _ {A : Type 0} where
  -- p holds of each element and its place, places counted from i
  unfoldable pub each_from : (ℕ → A → Bool) → ℕ → List A → Bool
  each_from p i [] = true
  each_from p i (x ∷ xs) = p i x && each_from p (suc i) xs

  abbrev pub each : (ℕ → A → Bool) → List A → Bool
  each p l = each_from p 0 l

  -- the sum of f over the elements
  unfoldable pub total : (A → ℕ) → List A → ℕ
  total f [] = 0
  total f (x ∷ xs) = f x + total f xs

  -- f of each of the n numbers from i on, in order
  unfoldable pub listed_from : (ℕ → A) → ℕ → ℕ → List A
  listed_from f zero i = []
  listed_from f (suc n) i = f i ∷ listed_from f n (suc i)

  -- f of each number below n, in order
  abbrev pub listed : ℕ → (ℕ → A) → List A
  listed n f = listed_from f n 0
