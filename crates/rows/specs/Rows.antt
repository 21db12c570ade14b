-- A table of rows, one after the other and each as long: what stands at a number of a row, and the table with one place changed. Total at every
-- number: past a row's end and past the last row stands d, and a store there changes nothing. Assumes nothing.
use Rattle.std.specs.Prelude.{ℕ, ◌+◌, ◌*◌, cond, List, get_or, set, ltb}

-- what stands at the number i of the row w, where a row has this width
abbrev pub row_at : {A : Type 0} → ℕ → A → List A → ℕ → ℕ → A
row_at width d l w i = cond (ltb i width) (get_or l (w * width + i) d) d

-- the table with x there
abbrev pub row_put : {A : Type 0} → ℕ → List A → ℕ → ℕ → A → List A
row_put width l w i x = cond (ltb i width) (set l (w * width + i) x) l
