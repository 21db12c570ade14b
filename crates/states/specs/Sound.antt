-- "A sound state": the six points of document 01, the test, and the first broken point. Assumes nothing.
use Rattle.std.specs.Prelude.{None, Some, ℕ, ◌+◌, ◌*◌, ◌/◌, ◌%◌, Bool, true, false, ◌&&◌, ◌||◌, not, cond, ltb, leb, eqb}
use Rattle.numbers.specs.Below.{all_below, count_below, bit, walk_meets}
use Rattle.numbers.specs.Lists.{each, total}
use Rattle.tables.specs.declared.Kind.{Kind}
use Rattle.tables.specs.declared.Message.{Message}
use Rattle.tables.specs.declared.Message.TheVariants.{Empty, Reference, Release, Read, Answer, Ask, Supply}
use Rattle.tables.specs.Machine.{Machine, Tables}
use Rattle.tables.specs.Parts.{Holding, Place, on_ex, on_names, is_free, is_var, is_val, is_ex, reading_of, is_reading, is_asking, ex_names, named_by, is_at, is_unused, is_live, entry_names}
use Rattle.tables.specs.Look.{cell, entry, end_kind, safe, booked, free_cells}
use Rattle.states.specs.Chains.{follow}

-- a Read or an Answer for the cell c of worker w
abbrev pub reads_for : ℕ → ℕ → Message → Bool
reads_for w c Empty = false
reads_for w c (Reference to o e n) = false
reads_for w c (Release o e n) = false
reads_for w c (Read r d o e) = eqb r w && eqb d c
reads_for w c (Answer r d n) = eqb r w && eqb d c
reads_for w c (Ask a d o e) = false
reads_for w c (Supply a d n) = false

-- an Ask or a Supply for the cell c of worker w
abbrev pub asks_for : ℕ → ℕ → Message → Bool
asks_for w c Empty = false
asks_for w c (Reference to o e n) = false
asks_for w c (Release o e n) = false
asks_for w c (Read r d o e) = false
asks_for w c (Answer r d n) = false
asks_for w c (Ask a d o e) = eqb a w && eqb d c
asks_for w c (Supply a d n) = eqb a w && eqb d c

module _ (𝓜 : Machine) (s : Tables) where
  -- a test of each cell, of each entry, with worker and number, and of each message
  abbrev pub each_cell : (ℕ → ℕ → Kind → Bool) → Bool
  each_cell q = each (λ i x. q (i / 𝓜.cells) (i % 𝓜.cells) x.kind) s.cells

  abbrev pub each_entry : (ℕ → ℕ → Holding → Bool) → Bool
  each_entry q = each (λ i x. q (i / 𝓜.entries) (i % 𝓜.entries) x.holding) s.entries

  abbrev pub each_message : (Message → Bool) → Bool
  each_message q = each (λ i x. q x.message) s.slots

  -- ---- point 1. "P is at most 8; everything of workers P and up is free; worker numbers in cells and messages are below P, cell numbers
  -- at most 31, entry numbers at most 15, weights at most the ceiling, a live entry's at least 1."

  abbrev pub worker_in : ℕ → Bool
  worker_in w = ltb w s.p

  abbrev pub cell_in : ℕ → Bool
  cell_in c = ltb c 𝓜.cells

  abbrev pub entry_in : ℕ → Bool
  entry_in e = ltb e 𝓜.entries

  abbrev pub weight_in : ℕ → Bool
  weight_in n = leb n 𝓜.ceiling

  abbrev pub kind_in_range : Kind → Bool
  kind_in_range k = on_names true cell_in (λ o e n st a. worker_in o && entry_in e && weight_in n) k

  abbrev pub holding_in_range : Holding → Bool
  holding_in_range None = true
  holding_in_range (Some l) = cell_in l.cell && weight_in l.weight && leb 1 l.weight

  abbrev pub message_in_range : Message → Bool
  message_in_range Empty = true
  message_in_range (Reference to o e n) = worker_in to && worker_in o && entry_in e && weight_in n
  message_in_range (Release o e n) = worker_in o && entry_in e && weight_in n
  message_in_range (Read r c o e) = worker_in r && cell_in c && worker_in o && entry_in e
  message_in_range (Answer r c n) = worker_in r && cell_in c
  message_in_range (Ask a c o e) = worker_in a && cell_in c && worker_in o && entry_in e
  message_in_range (Supply a c n) = worker_in a && cell_in c && weight_in n

  abbrev pub cell_in_range : ℕ → ℕ → Kind → Bool
  cell_in_range w c k = (worker_in w || is_free k) && kind_in_range k

  abbrev pub entry_in_range : ℕ → ℕ → Holding → Bool
  entry_in_range w e x = (worker_in w || is_unused x) && holding_in_range x

  unfoldable pub point1 : Bool
  point1 = leb s.p 𝓜.workers && each_cell cell_in_range && each_entry entry_in_range && each_message message_in_range

  -- ---- point 2. "A REF names an EX. An EX names a live entry of another worker, weight at least 1; no two EX of a worker name one entry."

  -- how many EX of worker w name the entry e of worker o
  unfoldable pub exes_naming : ℕ → ℕ → ℕ → ℕ
  exes_naming w o e = count_below 𝓜.cells (λ c. ex_names o e (cell 𝓜 s w c))

  abbrev pub cell_names : ℕ → ℕ → Kind → Bool
  cell_names w c k =
      on_names true (λ d. is_ex (cell 𝓜 s w d)) (λ o e n st a. not (eqb o w) && is_live (entry 𝓜 s o e) && leb 1 n && leb (exes_naming w o e) 1) k

  unfoldable pub point2 : Bool
  point2 = each_cell cell_names

  -- ---- point 3. "A live entry names a cell that is not free; no two of a worker name one cell. The cell of an untainted entry has as its
  -- end a VAR, a VAL or a safe EX."

  -- how many live entries of worker w name its cell c
  unfoldable pub entries_naming : ℕ → ℕ → ℕ
  entries_naming w c = count_below 𝓜.entries (λ e. entry_names c (entry 𝓜 s w e))

  abbrev pub var_val_or_safe : ℕ → Kind → Bool
  var_val_or_safe w k = is_var k || is_val k || safe 𝓜 s w k

  abbrev pub entry_names_cell : ℕ → ℕ → Holding → Bool
  entry_names_cell w e None = true
  entry_names_cell w e (Some l) =
      not (is_free (cell 𝓜 s w l.cell)) && leb (entries_naming w l.cell) 1 && (l.tainted || var_val_or_safe w (end_kind 𝓜 s w l.cell))

  unfoldable pub point3 : Bool
  point3 = each_entry entry_names_cell

  -- ---- point 4. "Each reading EX has exactly one Read or Answer, and each of those has such an EX; likewise asking, Ask, Supply. Messages
  -- name live entries; weight is at least 1 in Reference and Release and may be 0 in Supply. An Ask names its EX's entry. A Read's entry is
  -- the one its EX names, or one reached from there by following ends and references."

  unfoldable pub reads_of : ℕ → ℕ → ℕ
  reads_of w c = total (λ x. bit (reads_for w c x.message)) s.slots

  unfoldable pub asks_of : ℕ → ℕ → ℕ
  asks_of w c = total (λ x. bit (asks_for w c x.message)) s.slots

  -- an EX that is reading has exactly one Read or Answer, one that is asking exactly one Ask or Supply
  abbrev pub cell_awaited : ℕ → ℕ → Kind → Bool
  cell_awaited w c k =
      on_ex true (λ o e n st a. (not (reading_of st) || eqb (reads_of w c) 1) && (not a || eqb (asks_of w c) 1)) k

  -- the entry e of worker o is this place, or one reached from there: in as many places as there are entries
  unfoldable pub reached : Place → ℕ → ℕ → Bool
  reached from o e = walk_meets (is_at o e) (follow 𝓜 s) (𝓜.workers * 𝓜.entries) from

  abbrev pub message_has_its : Message → Bool
  message_has_its Empty = true
  message_has_its (Reference to o e n) = is_live (entry 𝓜 s o e) && leb 1 n
  message_has_its (Release o e n) = is_live (entry 𝓜 s o e) && leb 1 n
  message_has_its (Read r c o e) = is_reading (cell 𝓜 s r c) && is_live (entry 𝓜 s o e) && reached (named_by (cell 𝓜 s r c)) o e
  message_has_its (Answer r c n) = is_reading (cell 𝓜 s r c)
  message_has_its (Ask a c o e) = is_asking (cell 𝓜 s a c) && is_live (entry 𝓜 s o e) && ex_names o e (cell 𝓜 s a c)
  message_has_its (Supply a c n) = is_asking (cell 𝓜 s a c)

  unfoldable pub point4 : Bool
  point4 = each_cell cell_awaited && each_message message_has_its

  -- ---- point 5. "A live entry's weight is the sum over EX cells, References, Releases, and Supplies (by their EX) that name it."

  -- what a cell, and what a message, holds on the entry e of worker o
  abbrev pub cell_holds : ℕ → ℕ → Kind → ℕ
  cell_holds o e k = on_ex 0 (λ owner entry n st a. cond (eqb owner o && eqb entry e) n 0) k

  abbrev pub message_holds : ℕ → ℕ → Message → ℕ
  message_holds o e Empty = 0
  message_holds o e (Reference to owner entry n) = cond (eqb owner o && eqb entry e) n 0
  message_holds o e (Release owner entry n) = cond (eqb owner o && eqb entry e) n 0
  message_holds o e (Read r c owner entry) = 0
  message_holds o e (Answer r c n) = 0
  message_holds o e (Ask a c owner entry) = 0
  message_holds o e (Supply a c n) = cond (ex_names o e (cell 𝓜 s a c)) n 0

  unfoldable pub held : ℕ → ℕ → ℕ
  held o e = total (λ x. cell_holds o e x.kind) s.cells + total (λ x. message_holds o e x.message) s.slots

  abbrev pub entry_weighs : ℕ → ℕ → Holding → Bool
  entry_weighs o e None = true
  entry_weighs o e (Some l) = eqb l.weight (held o e)

  unfoldable pub point5 : Bool
  point5 = each_entry entry_weighs

  -- ---- point 6. "Free cells at each worker are at least those booked."

  abbrev pub room_for_booked : ℕ → Bool
  room_for_booked w = leb (booked s w) (free_cells 𝓜 s w)

  unfoldable pub point6 : Bool
  point6 = all_below s.p room_for_booked

  -- ---- "Every call but the start first tests this; the test is itself public, yes or no."

  unfoldable pub sound : Bool
  sound = point1 && (point2 && (point3 && (point4 && (point5 && point6))))

  -- the place, 1 to 6, of the first broken point; 0 where none is
  unfoldable pub first_broken : ℕ
  first_broken = cond point1 (cond point2 (cond point3 (cond point4 (cond point5 (cond point6 0 6) 5) 4) 3) 2) 1
