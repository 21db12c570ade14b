-- The lines of a text. Only the newline, the byte 10, ends a line. Assumes nothing.
use Rattle.std.specs.Prelude.{ℕ, suc, ◌+◌, cond, List, [], ◌∷◌, eqb, drop}

-- x in front of the first line; a line of its own where there is none
abbrev pub in_front : ℕ → List (List ℕ) → List (List ℕ)
in_front x [] = (x ∷ []) ∷ []
in_front x (l ∷ ls) = (x ∷ l) ∷ ls

-- "A last line may lack its newline". An empty line is a line; an empty text has none, nor is there one after a last newline.
unfoldable pub lines_of : List ℕ → List (List ℕ)
lines_of [] = []
lines_of (x ∷ xs) = cond (eqb x 10) ([] ∷ lines_of xs) (in_front x (lines_of xs))

-- how many bytes stand before the first newline, or before the end
unfoldable pub to_newline : List ℕ → ℕ
to_newline [] = 0
to_newline (x ∷ xs) = cond (eqb x 10) 0 (suc (to_newline xs))

-- where the line that starts at a place ends: the place of its newline, or the end of the text
abbrev pub line_end : List ℕ → ℕ → ℕ
line_end s at = at + to_newline (drop at s)
