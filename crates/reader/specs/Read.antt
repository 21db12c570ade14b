-- "Frames are read through one reader that holds the text and its place": what it finds there, and where it stands then. Assumes nothing.
use Rattle.std.specs.Prelude.{ℕ, ◌+◌, List, [], ◌∷◌, length, drop, Option, Some, None, option_map, unwrap_or}
use Rattle.tables.specs.declared.Call.{Call}
use Rattle.frames.specs.Frames.{decode}
use Rattle.frames.specs.Lines.{lines_of}
use Rattle.reader.specs.declared.Passage.{Passage}
use Rattle.reader.specs.declared.Reader.{Reader}

-- of lines that start at a place, the first: what it says, and the place after it and its newline
abbrev pub first_of : ℕ → List (List ℕ) → Option Passage
first_of at [] = None
first_of at (l ∷ ls) = Some record { frame = decode l; next = at + length l + 1 }

-- what stands at a place of a text, and the place after it
unfoldable pub read_at : List ℕ → ℕ → Option Passage
read_at s at = first_of at (lines_of (drop at s))

-- what stands at a reader's place: the line that it finds, and the place after that; with none the place stays
abbrev pub passage : Reader → Option Passage
passage r = read_at r.text.now r.at

abbrev pub found : Reader → Option (Option Call)
found r = option_map (λ (p : Passage). p.frame) (passage r)

abbrev pub place_after : Reader → ℕ
place_after r = unwrap_or (option_map (λ (p : Passage). p.next) (passage r)) r.at

-- the reader moved on behind it
abbrev pub moved_on : Reader → Reader
moved_on r = record { text = r.text; at = place_after r }

-- the lines that it has not read
abbrev pub lines_left : Reader → List (List ℕ)
lines_left r = lines_of (drop r.at r.text.now)
