-- The facts of a sound state: what holds of each cell, entry and message, of any two, and of the sums. Everything else that document 01's
-- six points say follows: ranges, since beyond its table everything is free; live entries, since a free one has weight 0. Assumes nothing.
use Rattle.std.specs.Prelude.{None, Some, ℕ, ◌<◌, ◌≤◌, ◌≡◌, true, false, ◌≢◌}
use Rattle.numbers.specs.Below.{bit}
use Rattle.tables.specs.declared.Status.{Status}
use Rattle.tables.specs.declared.Status.TheVariants.{Idle, Reading, Known}
use Rattle.tables.specs.declared.Kind.{Kind}
use Rattle.tables.specs.declared.Kind.TheVariants.{Free, Var, Val, Ref, Ex}
use Rattle.tables.specs.declared.Message.{Message}
use Rattle.tables.specs.declared.Message.TheVariants.{Empty, Reference, Release, Read, Answer, Ask, Supply}
use Rattle.tables.specs.Machine.{Machine, Tables}
use Rattle.tables.specs.Parts.{Holding, Place, place, is_free, is_ex, is_reading, is_asking, ex_names, named_by, entry_names, entry_weight}
use Rattle.tables.specs.Look.{cell, entry, end_kind, booked, free_cells, message}
use Rattle.states.specs.Chains.{ahead, EndsIn}
use Rattle.states.specs.Sound.{var_val_or_safe, reads_of, asks_of, held}
use Rattle.states.specs.Machines.{Sized}

module _ (𝓜 : Machine) (s : Tables) where
  -- a cell of worker w
  abbrev pub CellFact : ℕ → Kind → Type 0
  CellFact w Free = Unit {0}
  CellFact w (Var caller) = w < s.p
  CellFact w (Val n caller) = w < s.p
  CellFact w (Ref d) = (w < s.p) × (is_ex (cell 𝓜 s w d) ≡ true)
  CellFact w (Ex o e n st a) = (w < s.p) × (o ≢ w) × (1 ≤ n)

  -- an entry of worker w
  abbrev pub EntryFact : ℕ → Holding → Type 0
  EntryFact w None = Unit {0}
  EntryFact w (Some l) =
      (l.weight ≤ 𝓜.ceiling) × (1 ≤ l.weight) × (is_free (cell 𝓜 s w l.cell) ≡ false) × (l.tainted ≡ false → var_val_or_safe 𝓜 s w (end_kind 𝓜 s w l.cell) ≡ true)

  abbrev pub MessageFact : Message → Type 0
  MessageFact Empty = Unit {0}
  MessageFact (Reference to o e n) = (to < s.p) × (1 ≤ n)
  MessageFact (Release o e n) = 1 ≤ n
  MessageFact (Read r c o e) = Unit {0}
  MessageFact (Answer r c n) = Unit {0}
  MessageFact (Ask a c o e) = ex_names o e (cell 𝓜 s a c) ≡ true
  MessageFact (Supply a c n) = Unit {0}

  -- the entry of a Read is the n-th from the one that its EX names
  abbrev pub ReadAhead : ℕ → Message → Type 0
  ReadAhead n Empty = Unit {0}
  ReadAhead n (Reference to o e w) = Unit {0}
  ReadAhead n (Release o e w) = Unit {0}
  ReadAhead n (Read r c o e) = ahead 𝓜 s n (named_by (cell 𝓜 s r c)) ≡ place o e
  ReadAhead n (Answer r c v) = Unit {0}
  ReadAhead n (Ask a c o e) = Unit {0}
  ReadAhead n (Supply a c w) = Unit {0}

  pub record Facts : Type 0 where
    pub sized : Sized 𝓜 s
    pub p_le : s.p ≤ 𝓜.workers
    pub cells : (w c : ℕ) → CellFact w (cell 𝓜 s w c)
    pub entries : (w e : ℕ) → EntryFact w (entry 𝓜 s w e)
    pub messages : (k : ℕ) → MessageFact (message s k)
    -- no two EX of a worker name one entry, no two entries of a worker one cell
    pub ex_once : (w c d o e : ℕ) → ex_names o e (cell 𝓜 s w c) ≡ true → ex_names o e (cell 𝓜 s w d) ≡ true → c ≡ d
    pub entry_once : (w e f c : ℕ) → entry_names c (entry 𝓜 s w e) ≡ true → entry_names c (entry 𝓜 s w f) ≡ true → e ≡ f
    -- one Read or Answer for a cell that is reading, and none for any other; likewise Ask and Supply
    pub reads_one : (w c : ℕ) → reads_of 𝓜 s w c ≡ bit (is_reading (cell 𝓜 s w c))
    pub asks_one : (w c : ℕ) → asks_of 𝓜 s w c ≡ bit (is_asking (cell 𝓜 s w c))
    -- every entry's weight, 0 where it is free, is what is held on it
    pub weighed : (o e : ℕ) → entry_weight (entry 𝓜 s o e) ≡ held 𝓜 s o e
    pub room : (w : ℕ) → booked s w ≤ free_cells 𝓜 s w

  -- every Read's entry is reached
  abbrev pub Reads : Type 0
  Reads = (k : ℕ) → (n : ℕ) × ReadAhead n (message s k)

  -- an EX that is known, and an Answer, holds the value at the end of its chain
  abbrev pub StatusFact : Place → Status → Type 0
  StatusFact from Idle = Unit {0}
  StatusFact from Reading = Unit {0}
  StatusFact from (Known v) = EndsIn 𝓜 s from v

  abbrev pub KnownFact : Kind → Type 0
  KnownFact Free = Unit {0}
  KnownFact (Var caller) = Unit {0}
  KnownFact (Val n caller) = Unit {0}
  KnownFact (Ref d) = Unit {0}
  KnownFact (Ex o e n st a) = StatusFact (place o e) st

  abbrev pub AnswerFact : Message → Type 0
  AnswerFact Empty = Unit {0}
  AnswerFact (Reference to o e n) = Unit {0}
  AnswerFact (Release o e n) = Unit {0}
  AnswerFact (Read r c o e) = Unit {0}
  AnswerFact (Answer r c v) = EndsIn 𝓜 s (named_by (cell 𝓜 s r c)) v
  AnswerFact (Ask a c o e) = Unit {0}
  AnswerFact (Supply a c n) = Unit {0}
