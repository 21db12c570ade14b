-- What is looked up in the tables, and the tables with one part changed. Total at every number: out of range reads free, and a store
-- there changes nothing; a slot is in range where the list has it. Assumes nothing.
use Rattle.std.specs.Prelude.{None, ℕ, ◌+◌, ◌*◌, Bool, false, ◌&&◌, ◌||◌, not, cond, List, get_or, set, ltb}
use Rattle.numbers.specs.Below.{lowest, some_below, count_below, bit}
use Rattle.numbers.specs.Lists.{total}
use Rattle.tables.specs.declared.Cell.{Cell}
use Rattle.tables.specs.declared.Entry.{Entry}
use Rattle.tables.specs.declared.Slot.{Slot}
use Rattle.tables.specs.declared.Kind.{Kind}
use Rattle.tables.specs.declared.Kind.TheVariants.{Free}
use Rattle.tables.specs.declared.Message.{Message}
use Rattle.tables.specs.declared.Message.TheVariants.{Empty}
use Rattle.tables.specs.declared.Room.{Room}
use Rattle.tables.specs.declared.Change.{Change}
use Rattle.tables.specs.declared.Change.TheVariants.{Nothing, OfCell, OfSlot, OfCellAndSlot, OfEntryAndSlot}
use Rattle.tables.specs.Machine.{Machine, Tables, with_cells, with_entries, with_slots}
use Rattle.tables.specs.Parts.{Holding, on_ex, is_free, is_reading, is_asking, ex_names, ref_names, end_from, is_unused, is_live, is_tainted, entry_names, is_empty, goes_to}

-- ---- what stands at a place of a list
abbrev pub kind_at : List Cell → ℕ → Kind
kind_at l i = (get_or l i (record { kind = Free })).kind

abbrev pub holding_at : List Entry → ℕ → Holding
holding_at l i = (get_or l i (record { holding = None })).holding

abbrev pub message_at : List Slot → ℕ → Message
message_at l i = (get_or l i (record { message = Empty })).message

module _ (𝓜 : Machine) (s : Tables) where
  -- ---- what stands in the tables

  -- the cell c of worker w
  unfoldable pub cell : ℕ → ℕ → Kind
  cell w c = cond (ltb w 𝓜.workers && ltb c 𝓜.cells) (kind_at s.cells (w * 𝓜.cells + c)) Free

  -- the entry e of worker w
  unfoldable pub entry : ℕ → ℕ → Holding
  entry w e = cond (ltb w 𝓜.workers && ltb e 𝓜.entries) (holding_at s.entries (w * 𝓜.entries + e)) None

  -- ---- a cell's end, safe, booked, busy

  -- "The end of a cell is the cell itself, or, for a REF, the cell it names."
  unfoldable pub end : ℕ → ℕ → ℕ
  end w c = end_from (cell w c) c

  -- what the end holds
  unfoldable pub end_kind : ℕ → ℕ → Kind
  end_kind w c = cell w (end w c)

  -- "An EX is safe if its owner's number is below its worker's and the entry is not tainted."
  unfoldable pub safe : ℕ → Kind → Bool
  safe w k = on_ex false (λ o e n st a. ltb o w && not (is_tainted (entry o e))) k

  -- the live entry of worker w that names its cell c; past the last where there is none
  unfoldable pub entry_of : ℕ → ℕ → ℕ
  entry_of w c = lowest 𝓜.entries (λ e. entry_names c (entry w e))

  -- a live entry names the cell
  unfoldable pub exported : ℕ → ℕ → Bool
  exported w c = ltb (entry_of w c) 𝓜.entries

  -- a REF names the cell
  unfoldable pub referred : ℕ → ℕ → Bool
  referred w c = some_below 𝓜.cells (λ d. ref_names c (cell w d))

  -- "Busy: a cell that a live entry or a REF names, or an EX that is reading or asking."
  unfoldable pub busy : ℕ → ℕ → Bool
  busy w c = exported w c || referred w c || is_reading (cell w c) || is_asking (cell w c)

  -- ---- lowest free, and what names an entry

  unfoldable pub lowest_free_cell : ℕ → ℕ
  lowest_free_cell w = lowest 𝓜.cells (λ c. is_free (cell w c))

  unfoldable pub lowest_free_entry : ℕ → ℕ
  lowest_free_entry w = lowest 𝓜.entries (λ e. is_unused (entry w e))

  unfoldable pub lowest_empty_slot : ℕ
  lowest_empty_slot = lowest 𝓜.slots (λ k. is_empty (message_at s.slots k))

  -- the EX of worker w that names the entry e of worker o; past the last cell where there is none
  unfoldable pub ex_naming : ℕ → ℕ → ℕ → ℕ
  ex_naming w o e = lowest 𝓜.cells (λ c. ex_names o e (cell w c))

  -- how many cells of worker w are free
  unfoldable pub free_cells : ℕ → ℕ
  free_cells w = count_below 𝓜.cells (λ c. is_free (cell w c))

-- the message in the slot k
abbrev pub message : Tables → ℕ → Message
message s k = message_at s.slots k

-- "Booked at a worker: the number of Reference messages going to it."
unfoldable pub booked : Tables → ℕ → ℕ
booked s w = total (λ x. bit (goes_to w x.message)) s.slots

-- E, the number of live entries
unfoldable pub live_entries : Tables → ℕ
live_entries s = total (λ x. bit (is_live x.holding)) s.entries

-- the room for a Reference at worker w
abbrev pub room : Machine → Tables → ℕ → Room
room 𝓜 s w = record { free = free_cells 𝓜 s w; booked = booked s w; slot = lowest_empty_slot 𝓜 s }

-- ---- the tables with one part changed

module _ (𝓜 : Machine) (s : Tables) where
  unfoldable pub put_cell : ℕ → ℕ → Kind → Tables
  put_cell w c k =
      cond (ltb w 𝓜.workers && ltb c 𝓜.cells)
      (with_cells s (set s.cells (w * 𝓜.cells + c) (record { kind = k })))
      s

  unfoldable pub put_entry : ℕ → ℕ → Holding → Tables
  put_entry w e x =
      cond (ltb w 𝓜.workers && ltb e 𝓜.entries)
      (with_entries s (set s.entries (w * 𝓜.entries + e) (record { holding = x })))
      s

unfoldable pub put_message : Tables → ℕ → Message → Tables
put_message s k m = with_slots s (set s.slots k (record { message = m }))

-- what a call changes, put into the tables
abbrev pub changed : Machine → Tables → Change → Tables
changed 𝓜 s Nothing = s
changed 𝓜 s (OfCell w c k) = put_cell 𝓜 s w c k
changed 𝓜 s (OfSlot i m) = put_message s i m
changed 𝓜 s (OfCellAndSlot w c k i m) = put_message (put_cell 𝓜 s w c k) i m
changed 𝓜 s (OfEntryAndSlot w e x i m) = put_message (put_entry 𝓜 s w e x) i m
