-- What proofs need of a machine's sizes and weights, and of the tables' lengths. Assumes nothing.
use Rattle.std.specs.Prelude.{ℕ, ◌*◌, ◌<◌, ◌≡◌, length}
use Rattle.tables.specs.Machine.{Machine, Tables}

pub record Laws (𝓜 : Machine) : Type 0 where
  pub workers_some : 0 < 𝓜.workers
  pub cells_some : 0 < 𝓜.cells
  pub entries_some : 0 < 𝓜.entries
  pub slots_some : 0 < 𝓜.slots
  pub first_some : 0 < 𝓜.first_weight
  -- an export by reference sends something and keeps something
  pub split_some : (n : ℕ) → 1 < n → 0 < 𝓜.split n
  pub split_less : (n : ℕ) → 1 < n → 𝓜.split n < n

-- the lists have the machine's lengths: as in every state of the code
pub record Sized (𝓜 : Machine) (s : Tables) : Type 0 where
  pub cells_long : length s.cells ≡ 𝓜.workers * 𝓜.cells
  pub entries_long : length s.entries ≡ 𝓜.workers * 𝓜.entries
  pub slots_long : length s.slots ≡ 𝓜.slots
