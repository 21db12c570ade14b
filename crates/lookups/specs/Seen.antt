-- A cell with its end. Assumes nothing.
use Rattle.std.specs.Prelude.{ℕ}
use Rattle.tables.specs.Machine.{Machine, Tables}
use Rattle.tables.specs.Look.{cell, end, end_kind}
use Rattle.lookups.specs.declared.Seen.{Seen}

-- what the cell c of worker w holds, the number of its end, and what the end holds
abbrev pub seen : Machine → Tables → ℕ → ℕ → Seen
seen 𝓜 s w c = record { kind = cell 𝓜 s w c; end = end 𝓜 s w c; ending = end_kind 𝓜 s w c }
