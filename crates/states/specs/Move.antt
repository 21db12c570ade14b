-- A move: a cell, an entry and a slot, each perhaps as it was, with what stood there. Every call that is done makes one, and what a move must
-- keep for the facts of a sound state to stay is said here once. Assumes nothing.
use Rattle.std.specs.Prelude.{ℕ, ◌+◌, ◌*◌, ◌<◌, ◌≤◌, ◌≡◌, true, false, ◌&&◌, ◌||◌, cond, ◌⊎◌, eqb, set}
use Rattle.numbers.specs.Below.{bit}
use Rattle.tables.specs.declared.Status.TheVariants.{Idle}
use Rattle.tables.specs.declared.Kind.{Kind}
use Rattle.tables.specs.declared.Kind.TheVariants.{Ref, Ex}
use Rattle.tables.specs.declared.Message.{Message}
use Rattle.tables.specs.declared.Message.TheVariants.{Empty, Reference, Release, Read, Answer, Ask, Supply}
use Rattle.tables.specs.Machine.{Machine, Tables, with_cells, with_entries, with_slots}
use Rattle.tables.specs.Parts.{Holding, place, on_ex, is_free, is_var, is_val, is_reading, is_asking, ex_names, is_live, is_tainted, entry_names, entry_weight, goes_to, cell_of}
use Rattle.tables.specs.Look.{cell, entry, safe, exported, busy, booked, free_cells, message}
use Rattle.states.specs.Chains.{follow}
use Rattle.states.specs.Sound.{reads_for, asks_for, cell_holds, message_holds}
use Rattle.states.specs.Facts.{CellFact, EntryFact, MessageFact, Facts, ReadAhead, Reads, KnownFact, AnswerFact}

-- the cell c of worker w, the entry e of worker o and the slot i: what stood there, and what stands there then
pub record Move : Type 0 where
  pub w : ℕ
  pub c : ℕ
  pub k₀ : Kind
  pub k : Kind
  pub o : ℕ
  pub e : ℕ
  pub x₀ : Holding
  pub x : Holding
  pub i : ℕ
  pub m₀ : Message
  pub m : Message

abbrev pub next : Machine → Tables → Move → Tables
next 𝓜 s h =
    let cells = set s.cells (h.w * 𝓜.cells + h.c) (record { kind = h.k }) in
    let entries = set s.entries (h.o * 𝓜.entries + h.e) (record { holding = h.x }) in
    with_slots (with_entries (with_cells s cells) entries) (set s.slots h.i (record { message = h.m }))

-- what others see of a cell: not an EX's weight and marks
abbrev pub shown : Kind → Kind
shown k = on_ex k (λ o e n st a. Ex o e 0 Idle false) k

-- the move is of parts of the tables, and of what stands there
pub record Placed (𝓜 : Machine) (s : Tables) (h : Move) : Type 0 where
  pub w_in : h.w < 𝓜.workers
  pub c_in : h.c < 𝓜.cells
  pub o_in : h.o < 𝓜.workers
  pub e_in : h.e < 𝓜.entries
  pub i_in : h.i < 𝓜.slots
  pub old_cell : cell 𝓜 s h.w h.c ≡ h.k₀
  pub old_entry : entry 𝓜 s h.o h.e ≡ h.x₀
  pub old_message : message s h.i ≡ h.m₀

-- an exported VAR stays one, gets its value, or becomes a REF to a safe EX
pub data VarBecomes (𝓜 : Machine) (s : Tables) (w : ℕ) (k : Kind) : Type 0 where
  stays : (is_var k || is_val k) ≡ true → VarBecomes 𝓜 s w k
  bound : (d : ℕ) → k ≡ Ref d → safe 𝓜 s w (cell 𝓜 s w d) ≡ true → VarBecomes 𝓜 s w k

-- a Reference that leaves its slot goes home, or into an EX k of that entry at the worker w that it goes to
abbrev pub ReferenceGoes : ℕ → Kind → Message → Type 0
ReferenceGoes w k Empty = Unit {0}
ReferenceGoes w k (Reference to o e n) = (to ≡ o) ⊎ ((w ≡ to) × (ex_names o e k ≡ true))
ReferenceGoes w k (Release o e n) = Unit {0}
ReferenceGoes w k (Read r c o e) = Unit {0}
ReferenceGoes w k (Answer r c n) = Unit {0}
ReferenceGoes w k (Ask a c o e) = Unit {0}
ReferenceGoes w k (Supply a c n) = Unit {0}

pub record Keeps (𝓜 : Machine) (s : Tables) (h : Move) : Type 0 where
  pub placed : Placed 𝓜 s h
  -- the new parts are as they should be
  pub cell_ok : (h.k ≡ h.k₀) ⊎ CellFact 𝓜 (next 𝓜 s h) h.w h.k
  pub entry_ok : (h.x ≡ h.x₀) ⊎ EntryFact 𝓜 (next 𝓜 s h) h.o h.x
  pub message_ok : (h.m ≡ h.m₀) ⊎ MessageFact 𝓜 (next 𝓜 s h) h.m
  -- a busy cell stays what others see of it, but for an exported VAR
  pub busy_kept : busy 𝓜 s h.w h.c ≡ true → is_var h.k₀ ≡ false → shown h.k ≡ shown h.k₀
  pub var_kept : exported 𝓜 s h.w h.c ≡ true → is_var h.k₀ ≡ true → VarBecomes 𝓜 s h.w h.k
  -- a Reference stays in its slot, or goes where it should
  pub reference_kept : (h.m ≡ h.m₀) ⊎ ReferenceGoes h.w h.k h.m₀
  -- a live entry that stays live keeps its cell and its taint
  pub entry_kept : is_live h.x₀ ≡ true → is_live h.x ≡ true → (cell_of h.x ≡ cell_of h.x₀) × (is_tainted h.x ≡ is_tainted h.x₀)
  -- no second EX of an entry, no second entry of a cell
  pub ex_new : (d a b : ℕ) → ex_names a b h.k ≡ true → ex_names a b (cell 𝓜 s h.w d) ≡ true → d ≡ h.c
  pub entry_new : (f d : ℕ) → entry_names d h.x ≡ true → entry_names d (entry 𝓜 s h.o f) ≡ true → f ≡ h.e
  -- marks and messages come and go together
  pub reads : (v d : ℕ)
      → bit (reads_for v d h.m) + cond (eqb h.w v && eqb h.c d) (bit (is_reading h.k₀)) 0
      ≡ bit (reads_for v d h.m₀) + cond (eqb h.w v && eqb h.c d) (bit (is_reading h.k)) 0
  pub asks : (v d : ℕ)
      → bit (asks_for v d h.m) + cond (eqb h.w v && eqb h.c d) (bit (is_asking h.k₀)) 0
      ≡ bit (asks_for v d h.m₀) + cond (eqb h.w v && eqb h.c d) (bit (is_asking h.k)) 0
  -- the entry's weight changes by what the cell and the message hold; a new message holds the same before and after
  pub weights : (a b : ℕ)
      → cond (eqb h.o a && eqb h.e b) (entry_weight h.x) 0 + cell_holds 𝓜 s a b h.k₀ + message_holds 𝓜 s a b h.m₀
      ≡ cond (eqb h.o a && eqb h.e b) (entry_weight h.x₀) 0 + cell_holds 𝓜 s a b h.k + message_holds 𝓜 s a b h.m
  pub holds_ok : (h.m ≡ h.m₀) ⊎ ((a b : ℕ) → message_holds 𝓜 (next 𝓜 s h) a b h.m ≡ message_holds 𝓜 s a b h.m)
  -- and free cells are still at least those booked
  pub room : (v : ℕ)
      → booked s v + bit (goes_to v h.m) + cond (eqb h.w v) (bit (is_free h.k₀)) 0
      ≤ free_cells 𝓜 s v + bit (goes_to v h.m₀) + cond (eqb h.w v) (bit (is_free h.k)) 0

-- And the entry of a new Read is ahead of its EX's.
abbrev pub ReadsOn : Machine → Tables → Move → Type 0
ReadsOn 𝓜 s h = (h.m ≡ h.m₀) ⊎ ((n : ℕ) × ReadAhead 𝓜 (next 𝓜 s h) n h.m)

-- What is true besides of reached states: an EX that is known, and an Answer, holds the value at the end of its chain.
pub record TrueValues (𝓜 : Machine) (s : Tables) : Type 0 where
  pub exes : (w c : ℕ) → KnownFact 𝓜 s (cell 𝓜 s w c)
  pub answers : (k : ℕ) → AnswerFact 𝓜 s (message s k)

-- A move that keeps this: a new Answer, or an EX newly known, holds that value.
pub record Carries (𝓜 : Machine) (s : Tables) (h : Move) : Type 0 where
  pub answer_ok : (h.m ≡ h.m₀) ⊎ AnswerFact 𝓜 (next 𝓜 s h) h.m
  pub known_ok : (KnownFact 𝓜 s h.k₀ → KnownFact 𝓜 s h.k) ⊎ KnownFact 𝓜 (next 𝓜 s h) h.k

-- What a call makes of the tables of a sound state: nothing, or one such move.
pub data Makes (𝓜 : Machine) (s : Tables) : Tables → Type 0 where
  nothing : Makes 𝓜 s s
  moved : (h : Move) → Keeps 𝓜 s h → ReadsOn 𝓜 s h → (TrueValues 𝓜 s → Carries 𝓜 s h) → Makes 𝓜 s (next 𝓜 s h)

-- A rank of the entries by which no chain goes round: at least the worker's number, that number for an untainted entry, and falling with
-- each step.
pub record Ranked (𝓜 : Machine) (s : Tables) (r : ℕ → ℕ → ℕ) : Type 0 where
  pub low : (a b : ℕ) → is_live (entry 𝓜 s a b) ≡ true → a ≤ r a b
  pub own : (a b : ℕ) → is_live (entry 𝓜 s a b) ≡ true → is_tainted (entry 𝓜 s a b) ≡ false → r a b ≡ a
  pub falls : (a b o e : ℕ) → follow 𝓜 s (place a b) ≡ place o e → r o e < r a b

-- What holds of every state reached from a start.
pub record Invariant (𝓜 : Machine) (s : Tables) : Type 0 where
  pub facts : Facts 𝓜 s
  pub reads : Reads 𝓜 s
  pub known : TrueValues 𝓜 s
  pub rank : ℕ → ℕ → ℕ
  pub ranked : Ranked 𝓜 s rank
