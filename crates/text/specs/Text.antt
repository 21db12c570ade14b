-- "The text program": what a text prints, line by line, the state going from each to the next. Assumes nothing.
use Rattle.std.specs.Prelude.{ℕ, cond, List, [], ◌∷◌, ◌++◌, length, ltb, Option, Some, None}
use Rattle.tables.specs.declared.Call.{Call}
use Rattle.tables.specs.Machine.{Tables, eight}
use Rattle.rules.specs.Calls.{closed}
use Rattle.rules.specs.Step.{step}
use Rattle.frames.specs.Frames.{decode}
use Rattle.frames.specs.Lines.{lines_of}
use Rattle.frames.specs.AnswerLines.{answer_line, no_frame_line, too_long_line}

-- what a line prints: its answer, or "ff00000000"
abbrev pub printed : Tables → Option Call → List ℕ
printed s None = no_frame_line
printed s (Some call) = answer_line (step eight s call).outcome

-- and the state after it: a line that is no frame "changes nothing"
abbrev pub after : Tables → Option Call → Tables
after s None = s
after s (Some call) = (step eight s call).after

-- "Output: one line a frame"
unfoldable pub answers_from : Tables → List (List ℕ) → List ℕ
answers_from s [] = []
answers_from s (l ∷ ls) = printed s (decode l) ++ answers_from (after s (decode l)) ls

-- "Input is at most 65,536 bytes; of a longer one nothing is run and the single line ffffffffff is printed. The program begins closed."
unfoldable pub run_text : List ℕ → List ℕ
run_text s = cond (ltb 65536 (length s)) too_long_line (answers_from (closed eight) (lines_of s))
