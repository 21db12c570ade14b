-- Tests, sums, counts and searches over the numbers below a bound, and walks of bounded length.
-- None that recurses is an `abbrev`: at a numeral bound it would be written out term by term. Assumes nothing.
use Rattle.std.specs.Prelude.{ℕ, zero, suc, ◌+◌, Bool, true, false, ◌&&◌, cond, ltb}

-- p holds of each number below n
unfoldable pub all_below : ℕ → (ℕ → Bool) → Bool
all_below zero p = true
all_below (suc n) p = all_below n p && p n

-- the sum of f over the numbers below n
unfoldable pub sum_below : ℕ → (ℕ → ℕ) → ℕ
sum_below zero f = 0
sum_below (suc n) f = sum_below n f + f n

-- 1 for true, 0 for false
abbrev pub bit : Bool → ℕ
bit true = 1
bit false = 0

-- how many numbers below n have p: a sum, so that the laws of sums are its laws
abbrev pub count_below : ℕ → (ℕ → Bool) → ℕ
count_below n p = sum_below n (λ i. bit (p i))

-- the lowest of the n numbers from i on that has p; i + n where none has
unfoldable pub lowest_from : (ℕ → Bool) → ℕ → ℕ → ℕ
lowest_from p zero i = i
lowest_from p (suc n) i =
    let later = lowest_from p n (suc i) in
    cond (p i) i later

-- the lowest number below n that has p; n where none has
abbrev pub lowest : ℕ → (ℕ → Bool) → ℕ
lowest n p = lowest_from p n 0

-- some number below n has p
abbrev pub some_below : ℕ → (ℕ → Bool) → Bool
some_below n p = ltb (lowest n p) n

-- p holds of a, or of a place that a leads to, among the first n places of the walk
unfoldable pub walk_meets : {A : Type 0} → (A → Bool) → (A → A) → ℕ → A → Bool
walk_meets p next zero a = false
walk_meets p next (suc n) a =
    let later = walk_meets p next n (next a) in
    cond (p a) true later
