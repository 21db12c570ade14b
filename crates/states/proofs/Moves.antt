-- The moves that calls make: of a cell and a slot, or of an entry and a slot. What is left to show of each, once what it leaves alone is
-- taken off; and that the rules' stores are such moves. Assumes nothing.
use Prim.Native.Nat.{ℕ, ◌+◌, ◌*◌, ◌<◌, ◌≤◌}
use native.Mathlib.Omega.{arith}
use mathlib.Core.Path.{◌≡◌, refl, ap, ap₂, ◌∙◌}
use mathlib.Core.Bool.{Bool, true, false, ◌&&◌, cond}
use mathlib.Core.List.{List}
use mathlib.Core.Logic.{◌⊎◌, inl, inr}
use lib.Dec.{eqb}
use lib.ListN.{set}
use lib.Seq.{set-get_or}
use borrow.Author.Tests.{lt-ltb}
use Rattle.numbers.specs.Below.{bit}
use Rattle.numbers.specs.Tests.{absurd_bool, or_l}
use Rattle.tables.specs.declared.Cell.{Cell}
use Rattle.tables.specs.declared.Entry.{Entry}
use Rattle.tables.specs.declared.Slot.{Slot}
use Rattle.tables.specs.declared.Status.{Status}
use Rattle.tables.specs.declared.Kind.{Kind}
use Rattle.tables.specs.declared.Kind.TheVariants.{Free, Ex}
use Rattle.tables.specs.declared.Message.{Message}
use Rattle.tables.specs.declared.Message.TheVariants.{Empty}
use Rattle.tables.specs.Machine.{Machine, Tables, with_cells, with_entries, with_slots}
use Rattle.tables.specs.Parts.{Holding, reading_of, is_free, is_var, is_val, is_reading, is_asking, ex_names, is_live, is_tainted, entry_names, entry_weight, goes_to, cell_of}
use Rattle.tables.specs.Look.{cell, entry, exported, busy, booked, free_cells, message, put_cell, put_entry, put_message}
use Rattle.tables.specs.Laws.{cell_in_lem, entry_in_lem}
use Rattle.states.specs.Sound.{reads_for, asks_for, cell_holds, message_holds}
use Rattle.states.specs.Machines.{Laws}
use Rattle.states.specs.Facts.{CellFact, EntryFact, MessageFact, Facts}
use Rattle.states.proofs.Inside.{cell_inside}
use Rattle.states.proofs.Derived.{cell_fact}
use Rattle.states.specs.Move.{Move, next, shown, VarBecomes, stays, ReferenceGoes, Keeps, Placed}
use Rattle.std.specs.Prelude.{None}

-- a move of the cell c of worker w and of the slot i; the entry that stands first is left as it is
abbrev pub cell_move : Machine → Tables → ℕ → ℕ → Kind → Kind → ℕ → Message → Message → Move
cell_move 𝓜 s w c k₀ k i m₀ m =
    record { w = w; c = c; k₀ = k₀; k = k; o = 0; e = 0; x₀ = entry 𝓜 s 0 0; x = entry 𝓜 s 0 0; i = i; m₀ = m₀; m = m }

-- a move of the entry e of worker o and of the slot i
abbrev pub entry_move : Machine → Tables → ℕ → ℕ → Holding → Holding → ℕ → Message → Message → Move
entry_move 𝓜 s o e x₀ x i m₀ m =
    record { w = 0; c = 0; k₀ = cell 𝓜 s 0 0; k = cell 𝓜 s 0 0; o = o; e = e; x₀ = x₀; x = x; i = i; m₀ = m₀; m = m }

-- a move of the slot i alone; the entry that stands first is left as it is
abbrev pub slot_move : Machine → Tables → ℕ → Message → Message → Move
slot_move 𝓜 s i m₀ m = entry_move 𝓜 s 0 0 (entry 𝓜 s 0 0) (entry 𝓜 s 0 0) i m₀ m

module _ (𝓜 : Machine) (L : Laws 𝓜) (s : Tables) where
  -- ---- the rules' stores, as moves
  same_entries : set s.entries (0 * 𝓜.entries + 0) (record { holding = entry 𝓜 s 0 0 }) ≡ s.entries
  same_entries =
      ap (λ (y : Holding). set s.entries (0 * 𝓜.entries + 0) (record { holding = y })) (entry_in_lem 𝓜 s 0 0 L.workers_some L.entries_some)
      ∙ set-get_or s.entries (0 * 𝓜.entries + 0) (record { holding = None })

  same_cells : set s.cells (0 * 𝓜.cells + 0) (record { kind = cell 𝓜 s 0 0 }) ≡ s.cells
  same_cells =
      ap (λ (y : Kind). set s.cells (0 * 𝓜.cells + 0) (record { kind = y })) (cell_in_lem 𝓜 s 0 0 L.workers_some L.cells_some)
      ∙ set-get_or s.cells (0 * 𝓜.cells + 0) (record { kind = Free })

  pub put_cell_message : (w c : ℕ) (k₀ k : Kind) (i : ℕ) (m₀ m : Message) → w < 𝓜.workers → c < 𝓜.cells
      → next 𝓜 s (cell_move 𝓜 s w c k₀ k i m₀ m) ≡ put_message (put_cell 𝓜 s w c k) i m
  unfolding put_cell put_message
  put_cell_message w c k₀ k i m₀ m a b =
      rw (lt-ltb w 𝓜.workers a, lt-ltb c 𝓜.cells b)
      (ap (λ (l : List Entry). put_message (with_entries (with_cells s (set s.cells (w * 𝓜.cells + c) (record { kind = k }))) l) i m) same_entries)

  pub put_cell_lem : (w c : ℕ) (k₀ k : Kind) → w < 𝓜.workers → c < 𝓜.cells → next 𝓜 s (cell_move 𝓜 s w c k₀ k 0 (message s 0) (message s 0)) ≡ put_cell 𝓜 s w c k
  unfolding put_cell
  put_cell_lem w c k₀ k a b =
      let stored = with_cells s (set s.cells (w * 𝓜.cells + c) (record { kind = k })) in
      rw (lt-ltb w 𝓜.workers a, lt-ltb c 𝓜.cells b)
      (ap₂ (λ (l : List Entry) (q : List Slot). with_slots (with_entries stored l) q) same_entries (set-get_or s.slots 0 (record { message = Empty })))

  pub put_entry_message : (o e : ℕ) (x₀ x : Holding) (i : ℕ) (m₀ m : Message) → o < 𝓜.workers → e < 𝓜.entries
      → next 𝓜 s (entry_move 𝓜 s o e x₀ x i m₀ m) ≡ put_message (put_entry 𝓜 s o e x) i m
  unfolding put_entry put_message
  put_entry_message o e x₀ x i m₀ m a b =
      rw (lt-ltb o 𝓜.workers a, lt-ltb e 𝓜.entries b)
      (ap (λ (l : List Cell). put_message (with_entries (with_cells s l) (set s.entries (o * 𝓜.entries + e) (record { holding = x }))) i m) same_cells)

  pub put_message_lem : (i : ℕ) (m₀ m : Message) → next 𝓜 s (slot_move 𝓜 s i m₀ m) ≡ put_message s i m
  unfolding put_message
  put_message_lem i m₀ m =
      ap₂ (λ (l : List Cell) (q : List Entry). put_message (with_entries (with_cells s l) q) i m) same_cells same_entries

  -- ---- where they are made
  pub cell_placed : {w c i : ℕ} {k₀ k : Kind} {m₀ m : Message} → w < 𝓜.workers → c < 𝓜.cells → i < 𝓜.slots → cell 𝓜 s w c ≡ k₀ → message s i ≡ m₀
      → Placed 𝓜 s (cell_move 𝓜 s w c k₀ k i m₀ m)
  cell_placed w_in c_in i_in q p =
      record { w_in = w_in; c_in = c_in; o_in = L.workers_some; e_in = L.entries_some; i_in = i_in; old_cell = q; old_entry = refl; old_message = p }

  pub entry_placed : {o e i : ℕ} {x₀ x : Holding} {m₀ m : Message} → o < 𝓜.workers → e < 𝓜.entries → i < 𝓜.slots → entry 𝓜 s o e ≡ x₀
      → message s i ≡ m₀ → Placed 𝓜 s (entry_move 𝓜 s o e x₀ x i m₀ m)
  entry_placed o_in e_in i_in q p =
      record { w_in = L.workers_some; c_in = L.cells_some; o_in = o_in; e_in = e_in; i_in = i_in; old_cell = refl; old_entry = q; old_message = p }

  -- ---- a cell and a slot
  pub record CellMoves (w c : ℕ) (k₀ k : Kind) (i : ℕ) (m₀ m : Message) : Type 0 where
    pub w_in : w < 𝓜.workers
    pub c_in : c < 𝓜.cells
    pub i_in : i < 𝓜.slots
    pub old_cell : cell 𝓜 s w c ≡ k₀
    pub old_message : message s i ≡ m₀
    pub cell_ok : CellFact 𝓜 (next 𝓜 s (cell_move 𝓜 s w c k₀ k i m₀ m)) w k
    pub message_ok : (m ≡ m₀) ⊎ MessageFact 𝓜 (next 𝓜 s (cell_move 𝓜 s w c k₀ k i m₀ m)) m
    pub busy_kept : busy 𝓜 s w c ≡ true → is_var k₀ ≡ false → shown k ≡ shown k₀
    pub var_kept : exported 𝓜 s w c ≡ true → is_var k₀ ≡ true → VarBecomes 𝓜 s w k
    pub reference_kept : (m ≡ m₀) ⊎ ReferenceGoes w k m₀
    pub ex_new : (d a b : ℕ) → ex_names a b k ≡ true → ex_names a b (cell 𝓜 s w d) ≡ true → d ≡ c
    pub reads : (v d : ℕ)
        → bit (reads_for v d m) + cond (eqb w v && eqb c d) (bit (is_reading k₀)) 0 ≡ bit (reads_for v d m₀) + cond (eqb w v && eqb c d) (bit (is_reading k)) 0
    pub asks : (v d : ℕ)
        → bit (asks_for v d m) + cond (eqb w v && eqb c d) (bit (is_asking k₀)) 0 ≡ bit (asks_for v d m₀) + cond (eqb w v && eqb c d) (bit (is_asking k)) 0
    pub weights : (a b : ℕ) → cell_holds 𝓜 s a b k₀ + message_holds 𝓜 s a b m₀ ≡ cell_holds 𝓜 s a b k + message_holds 𝓜 s a b m
    pub holds_ok : (m ≡ m₀) ⊎ ((a b : ℕ) → message_holds 𝓜 (next 𝓜 s (cell_move 𝓜 s w c k₀ k i m₀ m)) a b m ≡ message_holds 𝓜 s a b m)
    pub room : (v : ℕ)
        → booked s v + bit (goes_to v m) + cond (eqb w v) (bit (is_free k₀)) 0 ≤ free_cells 𝓜 s v + bit (goes_to v m₀) + cond (eqb w v) (bit (is_free k)) 0

  module _ (F : Facts 𝓜 s) where
    pub cell_keeps : (w c : ℕ) (k₀ k : Kind) (i : ℕ) (m₀ m : Message) → CellMoves w c k₀ k i m₀ m → Keeps 𝓜 s (cell_move 𝓜 s w c k₀ k i m₀ m)
    cell_keeps w c k₀ k i m₀ m M =
        record {
          placed = cell_placed M.w_in M.c_in M.i_in M.old_cell M.old_message;
          cell_ok = inr M.cell_ok;
          entry_ok = inl refl;
          message_ok = M.message_ok;
          busy_kept = M.busy_kept;
          var_kept = M.var_kept;
          reference_kept = M.reference_kept;
          entry_kept = λ a b. (refl, refl);
          ex_new = M.ex_new;
          entry_new = λ f d t u. F.entry_once 0 f 0 d u t;
          reads = M.reads;
          asks = M.asks;
          weights = λ a b. omega (arith, M.weights a b);
          holds_ok = M.holds_ok;
          room = M.room;
        }

    -- ---- an EX that goes on naming its entry
    pub record ExMoves (w c o e n₀ n : ℕ) (st₀ st : Status) (a₀ a : Bool) (i : ℕ) (m₀ m : Message) : Type 0 where
      pub i_in : i < 𝓜.slots
      pub old_cell : cell 𝓜 s w c ≡ Ex o e n₀ st₀ a₀
      pub old_message : message s i ≡ m₀
      pub some : 1 ≤ n
      pub reference_kept : ReferenceGoes w (Ex o e n st a) m₀
      pub message_ok : MessageFact 𝓜 (next 𝓜 s (cell_move 𝓜 s w c (Ex o e n₀ st₀ a₀) (Ex o e n st a) i m₀ m)) m
      pub reads : (v d : ℕ)
          → bit (reads_for v d m) + cond (eqb w v && eqb c d) (bit (reading_of st₀)) 0 ≡ bit (reads_for v d m₀) + cond (eqb w v && eqb c d) (bit (reading_of st)) 0
      pub asks : (v d : ℕ) → bit (asks_for v d m) + cond (eqb w v && eqb c d) (bit a₀) 0 ≡ bit (asks_for v d m₀) + cond (eqb w v && eqb c d) (bit a) 0
      pub weights : (x y : ℕ) → cond (eqb o x && eqb e y) n₀ 0 + message_holds 𝓜 s x y m₀ ≡ cond (eqb o x && eqb e y) n 0 + message_holds 𝓜 s x y m
      pub holds_ok : (x y : ℕ) → message_holds 𝓜 (next 𝓜 s (cell_move 𝓜 s w c (Ex o e n₀ st₀ a₀) (Ex o e n st a) i m₀ m)) x y m ≡ message_holds 𝓜 s x y m
      pub room : (v : ℕ) → booked s v + bit (goes_to v m) ≤ free_cells 𝓜 s v + bit (goes_to v m₀)

    pub ex_moves : (w c o e n₀ n : ℕ) (st₀ st : Status) (a₀ a : Bool) (i : ℕ) (m₀ m : Message) → ExMoves w c o e n₀ n st₀ st a₀ a i m₀ m
        → CellMoves w c (Ex o e n₀ st₀ a₀) (Ex o e n st a) i m₀ m
    ex_moves w c o e n₀ n st₀ st a₀ a i m₀ m M =
        let f = cell_fact 𝓜 s F w c M.old_cell in
        let inside = cell_inside 𝓜 s w c (ap is_free M.old_cell) in
        record {
          w_in = inside.0;
          c_in = inside.1;
          i_in = M.i_in;
          old_cell = M.old_cell;
          old_message = M.old_message;
          cell_ok = (f.0, f.1, M.some);
          message_ok = inr M.message_ok;
          busy_kept = λ b v. refl;
          var_kept = λ x v. absurd_bool v refl;
          reference_kept = inr M.reference_kept;
          ex_new = λ d x y t u. F.ex_once w d c x y u (ap (ex_names x y) M.old_cell ∙ t);
          reads = M.reads;
          asks = M.asks;
          weights = M.weights;
          holds_ok = inr M.holds_ok;
          room = λ v. omega (arith, M.room v);
        }

    -- ---- an entry and a slot
    pub record EntryMoves (o e : ℕ) (x₀ x : Holding) (i : ℕ) (m₀ m : Message) : Type 0 where
      pub o_in : o < 𝓜.workers
      pub e_in : e < 𝓜.entries
      pub i_in : i < 𝓜.slots
      pub old_entry : entry 𝓜 s o e ≡ x₀
      pub old_message : message s i ≡ m₀
      pub entry_ok : (x ≡ x₀) ⊎ EntryFact 𝓜 (next 𝓜 s (entry_move 𝓜 s o e x₀ x i m₀ m)) o x
      pub message_ok : MessageFact 𝓜 (next 𝓜 s (entry_move 𝓜 s o e x₀ x i m₀ m)) m
      pub entry_kept : is_live x₀ ≡ true → is_live x ≡ true → (cell_of x ≡ cell_of x₀) × (is_tainted x ≡ is_tainted x₀)
      pub entry_new : (f d : ℕ) → entry_names d x ≡ true → entry_names d (entry 𝓜 s o f) ≡ true → f ≡ e
      pub reference_kept : (w : ℕ) (k : Kind) → ReferenceGoes w k m₀
      pub reads : (v d : ℕ) → bit (reads_for v d m) ≡ bit (reads_for v d m₀)
      pub asks : (v d : ℕ) → bit (asks_for v d m) ≡ bit (asks_for v d m₀)
      pub weights : (a b : ℕ)
          → cond (eqb o a && eqb e b) (entry_weight x) 0 + message_holds 𝓜 s a b m₀ ≡ cond (eqb o a && eqb e b) (entry_weight x₀) 0 + message_holds 𝓜 s a b m
      pub holds_ok : (a b : ℕ) → message_holds 𝓜 (next 𝓜 s (entry_move 𝓜 s o e x₀ x i m₀ m)) a b m ≡ message_holds 𝓜 s a b m
      pub room : (v : ℕ) → booked s v + bit (goes_to v m) ≤ free_cells 𝓜 s v + bit (goes_to v m₀)

    pub entry_keeps : (o e : ℕ) (x₀ x : Holding) (i : ℕ) (m₀ m : Message) → EntryMoves o e x₀ x i m₀ m → Keeps 𝓜 s (entry_move 𝓜 s o e x₀ x i m₀ m)
    entry_keeps o e x₀ x i m₀ m M =
        record {
          placed = entry_placed M.o_in M.e_in M.i_in M.old_entry M.old_message;
          cell_ok = inl refl;
          entry_ok = M.entry_ok;
          message_ok = inr M.message_ok;
          busy_kept = λ b v. refl;
          var_kept = λ t v. stays (or_l (is_val (cell 𝓜 s 0 0)) v);
          reference_kept = inr (M.reference_kept 0 (cell 𝓜 s 0 0));
          entry_kept = M.entry_kept;
          ex_new = λ d a b t u. F.ex_once 0 d 0 a b u t;
          entry_new = M.entry_new;
          reads = λ v d. omega (arith, M.reads v d);
          asks = λ v d. omega (arith, M.asks v d);
          weights = λ a b. omega (arith, M.weights a b);
          holds_ok = inr M.holds_ok;
          room = λ v. omega (arith, M.room v);
        }

-- ---- the rules' stores are moves
pub record Stores (𝓜 : Machine) (s s' : Tables) : Type 0 where
  pub move : Move
  pub keeps : Keeps 𝓜 s move
  pub is : next 𝓜 s move ≡ s'

module _ (𝓜 : Machine) (L : Laws 𝓜) (s : Tables) where
  abbrev pub stores_slot : (i : ℕ) (m₀ m : Message) → Keeps 𝓜 s (slot_move 𝓜 s i m₀ m) → Stores 𝓜 s (put_message s i m)
  stores_slot i m₀ m K = record { move = slot_move 𝓜 s i m₀ m; keeps = K; is = put_message_lem 𝓜 L s i m₀ m }

  module _ (F : Facts 𝓜 s) where
    abbrev pub stores_cell : (w c : ℕ) (k₀ k : Kind) → CellMoves 𝓜 L s w c k₀ k 0 (message s 0) (message s 0) → Stores 𝓜 s (put_cell 𝓜 s w c k)
    stores_cell w c k₀ k M =
        record {
          move = cell_move 𝓜 s w c k₀ k 0 (message s 0) (message s 0);
          keeps = cell_keeps 𝓜 L s F w c k₀ k 0 (message s 0) (message s 0) M;
          is = put_cell_lem 𝓜 L s w c k₀ k M.w_in M.c_in;
        }

    abbrev pub stores_cell_message : (w c : ℕ) (k₀ k : Kind) (i : ℕ) (m₀ m : Message) → CellMoves 𝓜 L s w c k₀ k i m₀ m
        → Stores 𝓜 s (put_message (put_cell 𝓜 s w c k) i m)
    stores_cell_message w c k₀ k i m₀ m M =
        record {
          move = cell_move 𝓜 s w c k₀ k i m₀ m;
          keeps = cell_keeps 𝓜 L s F w c k₀ k i m₀ m M;
          is = put_cell_message 𝓜 L s w c k₀ k i m₀ m M.w_in M.c_in;
        }

    abbrev pub stores_ex : (w c o e n₀ n : ℕ) (st₀ st : Status) (a₀ a : Bool) (i : ℕ) (m₀ m : Message)
        → ExMoves 𝓜 L s F w c o e n₀ n st₀ st a₀ a i m₀ m → Stores 𝓜 s (put_message (put_cell 𝓜 s w c (Ex o e n st a)) i m)
    stores_ex w c o e n₀ n st₀ st a₀ a i m₀ m M =
        stores_cell_message w c (Ex o e n₀ st₀ a₀) (Ex o e n st a) i m₀ m (ex_moves 𝓜 L s F w c o e n₀ n st₀ st a₀ a i m₀ m M)

    abbrev pub stores_entry : (o e : ℕ) (x₀ x : Holding) (i : ℕ) (m₀ m : Message) → EntryMoves 𝓜 L s F o e x₀ x i m₀ m
        → Stores 𝓜 s (put_message (put_entry 𝓜 s o e x) i m)
    stores_entry o e x₀ x i m₀ m M =
        record {
          move = entry_move 𝓜 s o e x₀ x i m₀ m;
          keeps = entry_keeps 𝓜 L s F o e x₀ x i m₀ m M;
          is = put_entry_message 𝓜 L s o e x₀ x i m₀ m M.o_in M.e_in;
        }
