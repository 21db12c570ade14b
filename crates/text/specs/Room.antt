-- A run into a lent buffer: all of it, where there is room, and nothing else. Assumes nothing.
use Rattle.std.specs.Prelude.{ℕ, ◌/◌, Bool, cond, List, ◌++◌, length, drop, ltb, Result, Ok, Err}
use Rattle.text.specs.declared.NoRoom.{NoRoom}
use Rattle.text.specs.Text.{run_text}

-- 11 bytes for each byte of the text, and 11 more
abbrev pub has_room : List ℕ → List ℕ → Bool
has_room input out = ltb (length input) (length out / 11)

-- how the run went: so many bytes were written, or there is no room
unfoldable pub ran : List ℕ → List ℕ → Result ℕ NoRoom
ran input out = cond (has_room input out) (Ok (length (run_text input))) (Err record {})

-- the buffer then: the answers, and behind them what stood there; or as it was
unfoldable pub written : List ℕ → List ℕ → List ℕ
written input out = cond (has_room input out) (run_text input ++ drop (length (run_text input)) out) out
