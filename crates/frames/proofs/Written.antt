-- What a text with a line written into it has. Assumes nothing.
use Prim.Native.Nat.{ℕ, ◌+◌, ◌≤◌}
use mathlib.Core.Path.{◌≡◌, refl, ◌∙◌}
use mathlib.Core.List.{List, ◌++◌}
use native.Mathlib.Omega.{arith}
use lib.ListN.{length, take, drop}
use lib.Seq.{take_all, paste, length-paste, take-paste, drop-paste}
use Rattle.frames.specs.AnswerLines.{line_of, with_line}

-- eleven bytes
pub line_length : (code value : ℕ) → length (line_of code value) ≡ 11
unfolding line_of
line_length code value = refl

-- a line was written: the length, what stands before its end, and what stands after it
module _ (out : List ℕ) (at : ℕ) (line : List ℕ) (room : at + 11 ≤ length out) (whole : length line ≡ 11) where
  as_paste : with_line out at line ≡ paste out at line 11
  as_paste = let k : length line ≤ 11 = omega arith in rw (take_all 11 line k)

  pub written_length : length (with_line out at line) ≡ length out
  written_length = rw as_paste (length-paste out at line 11 room (omega arith))

  pub written_front : take (at + 11) (with_line out at line) ≡ take at out ++ line
  written_front =
      let k : length line ≤ 11 = omega arith in
      rw as_paste (take-paste out at line 11 (omega arith) (omega arith) ∙ rw (take_all 11 line k))

  pub written_rest : drop (at + 11) (with_line out at line) ≡ drop (at + 11) out
  written_rest = rw as_paste (drop-paste out at line 11 (omega arith) (omega arith))
