-- How a run went, as one number. Assumes nothing.
use Rattle.std.specs.Prelude.{ℕ, ◌-◌, ◌^◌, List, Result, Ok, Err}
use Rattle.text.specs.declared.NoRoom.{NoRoom}
use Rattle.text.specs.Room.{ran}

-- the bytes written, or the largest number where there is no room
abbrev pub bytes_of : Result ℕ NoRoom → ℕ
bytes_of (Ok n) = n
bytes_of (Err e) = 2 ^ 64 - 1

abbrev pub bytes_written : List ℕ → List ℕ → ℕ
bytes_written input out = bytes_of (ran input out)
