-- "Output: one line a frame, each ended by a newline, 10 digits". Assumes nothing.
use Rattle.std.specs.Prelude.{ℕ, ◌+◌, ◌/◌, ◌%◌, ◌^◌, List, [], ◌∷◌, ◌++◌, take, drop}
use Rattle.tables.specs.declared.Outcome.{Outcome}
use Rattle.rules.specs.Answers.{code_of, value_of}
use Rattle.frames.specs.Hex.{digit_out}

-- the digit of n at a place, counted from the low end
abbrev pub digit_at : ℕ → ℕ → ℕ
digit_at n place = digit_out (n / 16 ^ place % 16)

-- "code .. and value": two digits and eight, high digit first, and the newline
unfoldable pub line_of : ℕ → ℕ → List ℕ
line_of code value =
    digit_at code 1 ∷ digit_at code 0
    ∷ digit_at value 7 ∷ digit_at value 6 ∷ digit_at value 5 ∷ digit_at value 4
    ∷ digit_at value 3 ∷ digit_at value 2 ∷ digit_at value 1 ∷ digit_at value 0
    ∷ 10 ∷ []

-- "code (00 done, 01 to 0f refused, by number, later numbers likewise, 40 Sent, 41 Waiting, 42 Unbound ..) and value"
abbrev pub answer_line : Outcome → List ℕ
answer_line o = line_of (code_of o) (value_of o)

-- "Any other line, an empty one too, gives ff00000000"
abbrev pub no_frame_line : List ℕ
no_frame_line = line_of 0xff 0

-- "of a longer one nothing is run and the single line ffffffffff is printed"
abbrev pub too_long_line : List ℕ
too_long_line = line_of 0xff 0xffffffff

-- a text with the eleven bytes of a line in place of those from a place on
abbrev pub with_line : List ℕ → ℕ → List ℕ → List ℕ
with_line out at line = take at out ++ line ++ drop (at + 11) out
