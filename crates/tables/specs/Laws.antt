-- What searches and counts over a worker's cells and entries say of the flat lists, where the code reads. Assumes nothing.
use Rattle.std.specs.Prelude.{None, ℕ, ◌+◌, ◌*◌, ◌≤◌, ◌<◌, ◌≡◌}
use borrow.Author.Tests.{lt-ltb, le-ltb}
use Rattle.tables.specs.declared.Kind.TheVariants.{Free}
use Rattle.tables.specs.Machine.{Machine, Tables}
use Rattle.tables.specs.Look.{kind_at, holding_at, cell, entry}

module _ (𝓜 : Machine) (s : Tables) where
  -- inside its table a cell is what the list holds, and beyond it is free
  pub cell_in_lem : (w c : ℕ) → w < 𝓜.workers → c < 𝓜.cells → cell 𝓜 s w c ≡ kind_at s.cells (w * 𝓜.cells + c)
  unfolding cell
  cell_in_lem w c h j = rw (lt-ltb w 𝓜.workers h, lt-ltb c 𝓜.cells j)

  pub cell_past : (w c : ℕ) → 𝓜.workers ≤ w → cell 𝓜 s w c ≡ Free
  unfolding cell
  cell_past w c h = rw (le-ltb w 𝓜.workers h)

  pub entry_in_lem : (w e : ℕ) → w < 𝓜.workers → e < 𝓜.entries → entry 𝓜 s w e ≡ holding_at s.entries (w * 𝓜.entries + e)
  unfolding entry
  entry_in_lem w e h j = rw (lt-ltb w 𝓜.workers h, lt-ltb e 𝓜.entries j)

  pub entry_past : (w e : ℕ) → 𝓜.workers ≤ w → entry 𝓜 s w e ≡ None
  unfolding entry
  entry_past w e h = rw (le-ltb w 𝓜.workers h)
