-- A machine's sizes and weights, the tables as lists, and document 01's own machine. Assumes nothing.
use Rattle.std.specs.Prelude.{ℕ, ◌/◌, List}
use Rattle.tables.specs.declared.Cell.{Cell}
use Rattle.tables.specs.declared.Entry.{Entry}
use Rattle.tables.specs.declared.Slot.{Slot}
use Rattle.tables.specs.declared.State.{State}

-- How many workers at most, cells and entries a worker, message slots; the weight of a first reference, the ceiling of an entry's
-- weight, and what an export by reference sends of an EX's weight.
pub record Machine : Type 0 where
  pub workers : ℕ
  pub cells : ℕ
  pub entries : ℕ
  pub slots : ℕ
  pub first_weight : ℕ
  pub ceiling : ℕ
  pub split : ℕ → ℕ

-- The tables and the messages under way, for a machine of any size: P workers, cells and entries worker by worker.
pub record Tables : Type 0 where
  pub p : ℕ
  pub cells : List Cell
  pub entries : List Entry
  pub slots : List Slot

-- The tables with another list of cells, of entries, of slots. Records of tables are built here, at the state's view, at the start and in a case made by hand.
abbrev pub with_cells : Tables → List Cell → Tables
with_cells s l = record { p = s.p; cells = l; entries = s.entries; slots = s.slots }

abbrev pub with_entries : Tables → List Entry → Tables
with_entries s l = record { p = s.p; cells = s.cells; entries = l; slots = s.slots }

abbrev pub with_slots : Tables → List Slot → Tables
with_slots s l = record { p = s.p; cells = s.cells; entries = s.entries; slots = l }

-- 8 workers of 32 cells and 16 entries, 64 slots; 1,024 at first, 1,048,576 the ceiling, half rounded down sent on
abbrev pub eight : Machine
eight =
    record {
      workers = 8;
      cells = 32;
      entries = 16;
      slots = 64;
      first_weight = 1024;
      ceiling = 1048576;
      split = λ w. w / 2;
    }

-- the state of the code, and back
abbrev pub tables : State → Tables
tables s = record { p = s.p; cells = s.cells; entries = s.entries; slots = s.slots }

abbrev pub state : Tables → State
state s = record { p = s.p; cells = s.cells; entries = s.entries; slots = s.slots }
