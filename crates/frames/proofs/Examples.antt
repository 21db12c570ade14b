-- Lines of document 01's run, and lines that are no frames: what they say, computed. Assumes nothing.
use Prim.Native.Nat.{ℕ}
use Prim.Native.Char.{code}
use Prim.Native.String.{String, [] as none, ◌∷◌ as ◌then◌}
use mathlib.Core.Path.{◌≡◌, refl}
use mathlib.Core.List.{List, [], ◌∷◌}
use Rattle.tables.specs.declared.Call.TheVariants.{Start, New, Set, Export}
use Rattle.tables.specs.declared.Outcome.TheVariants.{Done, Sent, Refused}
use Rattle.tables.specs.declared.Refusal.TheVariants.{NotReady, NoCaller}
use Rattle.frames.specs.Hex.{digit_in, number_after}
use Rattle.frames.specs.Frames.{by_call, decode}
use Rattle.frames.specs.Lines.{lines_of}
use Rattle.frames.specs.AnswerLines.{line_of, answer_line, no_frame_line, too_long_line}
use Rattle.std.specs.Prelude.{Option, Some, None}
use Rattle.tables.specs.declared.Call.{Call}

-- the bytes of a text
bytes : String → List ℕ
bytes none = []
bytes (c then s) = code c ∷ bytes s

says : String → Option Call
says s = decode (bytes s)

-- lines of the run, a number with its high byte first, and a caller
frames : (says "0102000000000000" ≡ Some (Start 2)) × (says "0500000100000000" ≡ Some (Export 0 0 1)) × (says "0300000000000007" ≡ Some (Set 0 0 7))
    × (says "0301020001020304" ≡ Some (Set 1 2 0x01020304)) × (says "02010000000000ff" ≡ Some (New 1 255))
unfolding says bytes decode number_after digit_in by_call
frames = (refl, refl, refl, refl, refl)

-- bytes that are not used, a number that is not used, an upper-case digit, an unknown call, a carriage return, an empty line
no_frames : (says "0102010000000000" ≡ None) × (says "0201010000000000" ≡ None) × (says "0c00000000000001" ≡ None)
    × (says "0C00000000000000" ≡ None) × (says "0d00000000000000" ≡ None) × (says "0c00000000000000\r" ≡ None) × (says "" ≡ None)
unfolding says bytes decode number_after digit_in by_call
no_frames = (refl, refl, refl, refl, refl, refl, refl)

-- no line, an empty line, an empty line between two of which the last lacks its newline
lines : (lines_of (bytes "") ≡ []) × (lines_of (bytes "\n") ≡ [] ∷ []) × (lines_of (bytes "01\n\n02") ≡ bytes "01" ∷ [] ∷ bytes "02" ∷ [])
unfolding bytes lines_of
lines = (refl, refl, refl)

-- lines of the run's output, of a later number, and the two others
answers : (answer_line (Done 7) ≡ bytes "0000000007\n") × (answer_line (Refused NotReady) ≡ bytes "0f00000000\n")
    × (answer_line (Refused NoCaller) ≡ bytes "1000000000\n") × (answer_line (Sent 0) ≡ bytes "4000000000\n")
    × (no_frame_line ≡ bytes "ff00000000\n") × (too_long_line ≡ bytes "ffffffffff\n")
unfolding bytes line_of
answers = (refl, refl, refl, refl, refl, refl)
