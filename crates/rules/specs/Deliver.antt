-- "deliver(s), any successor in the same slot, which otherwise becomes empty": what becomes of each message. Assumes nothing.
use Rattle.std.specs.Prelude.{None, Some, ℕ, ◌+◌, ◌-◌, min, false, cond, ltb, leb, eqb}
use Rattle.tables.specs.declared.Status.{Status}
use Rattle.tables.specs.declared.Status.TheVariants.{Idle, Reading, Known}
use Rattle.tables.specs.declared.Kind.{Kind}
use Rattle.tables.specs.declared.Kind.TheVariants.{Ex}
use Rattle.tables.specs.declared.Message.{Message}
use Rattle.tables.specs.declared.Message.TheVariants.{Empty, Reference, Release, Read, Answer, Ask, Supply}
use Rattle.tables.specs.declared.Outcome.TheVariants.{Done}
use Rattle.tables.specs.declared.Change.TheVariants.{OfSlot, OfCellAndSlot, OfEntryAndSlot}
use Rattle.tables.specs.declared.Effect.{Effect}
use Rattle.tables.specs.Machine.{Machine, Tables}
use Rattle.tables.specs.Parts.{Holding, live, on_val, on_ex, cell_of, entry_weight}
use Rattle.tables.specs.Look.{cell, entry, ex_naming, lowest_free_cell, message}
use Rattle.rules.specs.Answers.{done, answered, checked}
use Rattle.states.specs.Chains.{entry_end}
use Rattle.rules.specs.Refusals.{deliver_refusals}

-- "the weight is taken off the entry (freed at 0)"
abbrev pub taken_off : ℕ → Holding → Holding
taken_off w None = None
taken_off w (Some l) = cond (leb l.weight w) None (live l.cell (l.weight - w) l.tainted)

-- "it joins the EX naming that entry, or the lowest free cell becomes such an EX, idle"
abbrev pub joined : ℕ → ℕ → ℕ → Kind → Kind
joined o e w k = on_ex (Ex o e w Idle false) (λ owner entry n st a. Ex owner entry (n + w) st a) k

-- "the EX is known with n"
abbrev pub known : ℕ → Kind → Kind
known v k = on_ex k (λ o e n st a. Ex o e n (Known v) a) k

-- "weight added, no longer asking"
abbrev pub supplied : ℕ → Kind → Kind
supplied w k = on_ex k (λ o e n st a. Ex o e (n + w) st false) k

-- the entry that an Ask finds gains w
abbrev pub grown : ℕ → Holding → Holding
grown w None = None
grown w (Some l) = live l.cell (l.weight + w) l.tainted

-- what a Read for the cell c of worker r becomes at this end: "VAL or known: becomes Answer. An EX not known: becomes a Read of what it
-- names." At a VAR it is not ready; a free cell or a REF is no end in a sound state: it stays as it is.
abbrev pub read_on_ex : ℕ → ℕ → ℕ → ℕ → Status → Message
read_on_ex r c o e Idle = Read r c o e
read_on_ex r c o e Reading = Read r c o e
read_on_ex r c o e (Known v) = Answer r c v

abbrev pub read_on : ℕ → ℕ → Message → Kind → Message
read_on r c m k = on_ex (on_val m (λ v caller. Answer r c v) k) (λ o e n st a. read_on_ex r c o e st) k

module _ (𝓜 : Machine) (s : Tables) where
  -- the cell of worker w where a Reference to the entry e of worker o arrives
  unfoldable pub arrival_cell : ℕ → ℕ → ℕ → ℕ
  arrival_cell w o e =
      let x = ex_naming 𝓜 s w o e in
      let free = lowest_free_cell 𝓜 s w in
      cond (ltb x 𝓜.cells) x free

  -- "Reference: at the owner, the weight is taken off the entry (freed at 0), value its cell."
  unfoldable pub deliver_home : ℕ → ℕ → ℕ → ℕ → Effect
  deliver_home k o e w =
      let x = entry 𝓜 s o e in
      done (cell_of x) (OfEntryAndSlot o e (taken_off w x) k Empty)

  -- "Elsewhere it joins the EX naming that entry, or the lowest free cell becomes such an EX, idle. Value: cell."
  unfoldable pub deliver_away : ℕ → ℕ → ℕ → ℕ → ℕ → Effect
  deliver_away k to o e w =
      let c = arrival_cell to o e in
      done c (OfCellAndSlot to c (joined o e w (cell 𝓜 s to c)) k Empty)

  -- "Release: weight taken off, entry freed at 0. Value 0."
  unfoldable pub deliver_release : ℕ → ℕ → ℕ → ℕ → Effect
  deliver_release k o e w = done 0 (OfEntryAndSlot o e (taken_off w (entry 𝓜 s o e)) k Empty)

  -- "Read: .. Value 0."
  unfoldable pub deliver_read : ℕ → ℕ → ℕ → ℕ → ℕ → Effect
  deliver_read k r c o e = done 0 (OfSlot k (read_on r c (Read r c o e) (entry_end 𝓜 s o (entry 𝓜 s o e))))

  -- "Answer: the EX is known with n. Value: cell."
  unfoldable pub deliver_answer : ℕ → ℕ → ℕ → ℕ → Effect
  deliver_answer k r c v = done c (OfCellAndSlot r c (known v (cell 𝓜 s r c)) k Empty)

  -- "Supply: weight added, no longer asking. Value: cell."
  unfoldable pub deliver_supply : ℕ → ℕ → ℕ → ℕ → Effect
  deliver_supply k a c w = done c (OfCellAndSlot a c (supplied w (cell 𝓜 s a c)) k Empty)

  -- "Ask: the entry gains the smaller of 1,024 and what is left below the ceiling, perhaps 0; becomes Supply. Value 0."
  unfoldable pub deliver_ask : ℕ → ℕ → ℕ → ℕ → ℕ → Effect
  deliver_ask k a c o e =
      let x = entry 𝓜 s o e in
      let w = min 𝓜.first_weight (𝓜.ceiling - entry_weight x) in
      done 0 (OfEntryAndSlot o e (grown w x) k (Supply a c w))

  -- each message; an empty slot is refused before
  unfoldable pub deliver_message : ℕ → Message → Effect
  deliver_message k Empty = answered (Done 0)
  deliver_message k (Reference to o e w) = cond (eqb to o) (deliver_home k o e w) (deliver_away k to o e w)
  deliver_message k (Release o e w) = deliver_release k o e w
  deliver_message k (Read r c o e) = deliver_read k r c o e
  deliver_message k (Answer r c v) = deliver_answer k r c v
  deliver_message k (Ask a c o e) = deliver_ask k a c o e
  deliver_message k (Supply a c w) = deliver_supply k a c w

  unfoldable pub deliver : ℕ → Effect
  deliver k = checked (deliver_refusals 𝓜 s k) (deliver_message k (message s k))
