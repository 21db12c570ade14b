-- "Calls": what each does, but for deliver. A call is its refusals in order, and else its answer and what it changes. Assumes nothing.
use Rattle.std.specs.Prelude.{None, Some, ℕ, ◌+◌, ◌-◌, ◌*◌, Bool, true, false, not, cond, replicate}
use Rattle.numbers.specs.Lists.{total}
use Rattle.tables.specs.declared.Status.{Status}
use Rattle.tables.specs.declared.Status.TheVariants.{Idle, Reading, Known}
use Rattle.tables.specs.declared.Kind.{Kind}
use Rattle.tables.specs.declared.Kind.TheVariants.{Free, Var, Val, Ref, Ex}
use Rattle.tables.specs.declared.Message.{Message}
use Rattle.tables.specs.declared.Message.TheVariants.{Empty, Reference, Release, Read, Answer, Ask, Supply}
use Rattle.tables.specs.declared.Refusal.TheVariants.{WorkerCount}
use Rattle.tables.specs.declared.Outcome.TheVariants.{Done, Waiting, Unbound, Refused}
use Rattle.tables.specs.declared.Change.TheVariants.{OfCell, OfCellAndSlot, OfEntryAndSlot}
use Rattle.tables.specs.declared.Effect.{Effect}
use Rattle.tables.specs.declared.Used.{Used}
use Rattle.tables.specs.Machine.{Machine, Tables}
use Rattle.tables.specs.Parts.{Holding, live, on_var, on_val, on_ex, is_ex}
use Rattle.tables.specs.Look.{cell, end, end_kind, safe, lowest_free_cell, lowest_empty_slot, live_entries}
use Rattle.rules.specs.Answers.{Result, done, sent, answered, checked}
use Rattle.rules.specs.Refusals.{bad_count, used, new_refusals, set_refusals, bind_refusals, export_refusals, indirect_refusals, transfer_refusals, drop_refusals, read_refusals, ask_refusals, bound_refusals}

-- P workers, everything free
unfoldable pub all_free : Machine → ℕ → Tables
all_free 𝓜 p =
    record {
      p = p;
      cells = replicate (𝓜.workers * 𝓜.cells) (record { kind = Free });
      entries = replicate (𝓜.workers * 𝓜.entries) (record { holding = None });
      slots = replicate 𝓜.slots (record { message = Empty });
    }

-- "The closed state has P = 0 and everything free."
abbrev pub closed : Machine → Tables
closed 𝓜 = all_free 𝓜 0

-- "start(P): all free. Value 0." Refused it returns the closed state.
unfoldable pub start : Machine → ℕ → Result
start 𝓜 p =
    cond (bad_count 𝓜 p) (record { outcome = Refused WorkerCount; after = closed 𝓜 }) (record { outcome = Done 0; after = all_free 𝓜 p })

-- ---- what the calls make of one part

-- "VAR becomes VAL(n)"; W-201: "`set` keeps" the caller
abbrev pub valued : ℕ → Kind → Kind
valued n k = on_var k (λ caller. Val n caller) k

-- what a VAR, which holds k, becomes where it is bound to the end y, an EX of this status: "a REF to that end"; W-203: "binding to a known EX makes
-- the cell VAL with that value, exported or not, and names no EX; the cell keeps its own caller"
abbrev pub bound_to_ex : ℕ → Kind → Status → Kind
bound_to_ex y k Idle = Ref y
bound_to_ex y k Reading = Ref y
bound_to_ex y k (Known v) = valued v k

-- the end holds ex; any other than an EX is refused before
abbrev pub bound_to : ℕ → Kind → Kind → Kind
bound_to y k ex = on_ex (Ref y) (λ o e n st a. bound_to_ex y k st) ex

-- "Its entry, or the lowest free one made .., gains 1,024": the entry of the cell c, made with this taint
abbrev pub gains : ℕ → ℕ → Bool → Holding → Holding
gains first c taint None = live c first taint
gains first c taint (Some l) = live l.cell (l.weight + first) l.tainted

-- "Half its weight, rounded down, is sent; the rest stays."
abbrev pub keeps : Machine → Kind → Kind
keeps 𝓜 k = on_ex k (λ o e n st a. Ex o e (n - 𝓜.split n) st a) k

abbrev pub sends : Machine → ℕ → Kind → Message
sends 𝓜 to k = on_ex Empty (λ o e n st a. Reference to o e (𝓜.split n)) k

-- "its whole weight sent as a Reference"
abbrev pub sends_whole : ℕ → Kind → Message
sends_whole to k = on_ex Empty (λ o e n st a. Reference to o e n) k

-- "An EX sends its whole weight as Release"
abbrev pub releases : Kind → Message
releases k = on_ex Empty (λ o e n st a. Release o e n) k

-- "1 for each Reference, Release, Answer and Supply, 2 for each Ask, and E + 1 for each Read"
abbrev pub costs : ℕ → Message → ℕ
costs E Empty = 0
costs E (Reference to o e n) = 1
costs E (Release o e n) = 1
costs E (Read r c o e) = E + 1
costs E (Answer r c n) = 1
costs E (Ask a c o e) = 2
costs E (Supply a c n) = 1

-- ---- what the calls do, over what they have looked up: slot is the lowest empty one

-- by location, the cell x itself, with the entry u: "gains 1,024; a Reference of 1,024 is sent"
abbrev pub by_location : Machine → ℕ → ℕ → ℕ → Bool → Used → ℕ → Effect
by_location 𝓜 w x to taint u slot =
    done slot (OfEntryAndSlot w u.number (gains 𝓜.first_weight x taint u.holding) slot (Reference to w u.number 𝓜.first_weight))

-- "by reference. Half its weight, rounded down, is sent; the rest stays."
abbrev pub by_reference : Machine → ℕ → ℕ → ℕ → Kind → ℕ → Effect
by_reference 𝓜 w x to ex slot = done slot (OfCellAndSlot w x (keeps 𝓜 ex) slot (sends 𝓜 to ex))

-- "end VAR or VAL: by location .. untainted .. End EX: by reference"; x is the end, and holds k
abbrev pub export_end : Machine → ℕ → ℕ → ℕ → Kind → Used → ℕ → Effect
export_end 𝓜 w x to k u slot = cond (is_ex k) (by_reference 𝓜 w x to k slot) (by_location 𝓜 w x to false u slot)

-- the EX of the cell c "is freed and its whole weight sent as a Reference"
abbrev pub transferred : ℕ → ℕ → ℕ → Kind → ℕ → Effect
transferred w c to ex slot = done slot (OfCellAndSlot w c Free slot (sends_whole to ex))

-- "freed. An EX sends its whole weight as Release, value the slot; any other kind: value 64."
abbrev pub dropped : ℕ → ℕ → Kind → ℕ → Effect
dropped w c k slot = cond (is_ex k) (done slot (OfCellAndSlot w c Free slot (releases k))) (done 64 (OfCell w c Free))

-- at the end x: "VAL or known: done, value n. VAR: Unbound. Reading: Waiting. Else a Read is sent and the EX is reading: Sent, value the slot."
-- An end is no free cell and no REF in a sound state.
abbrev pub read_ex : ℕ → ℕ → ℕ → ℕ → ℕ → ℕ → Status → Bool → Effect
read_ex w x slot o e n Idle a = sent slot (OfCellAndSlot w x (Ex o e n Reading a) slot (Read w x o e))
read_ex w x slot o e n Reading a = answered Waiting
read_ex w x slot o e n (Known v) a = answered (Done v)

abbrev pub read_at : ℕ → ℕ → Kind → ℕ → Effect
read_at w x k slot = on_ex (on_val (answered Unbound) (λ n caller. answered (Done n)) k) (read_ex w x slot) k

-- "Asking already: Waiting. Else Ask is sent: Sent, value the slot." The EX is then asking.
abbrev pub ask_ex : ℕ → ℕ → ℕ → ℕ → ℕ → ℕ → Status → Bool → Effect
ask_ex w x slot o e n st true = answered Waiting
ask_ex w x slot o e n st false = sent slot (OfCellAndSlot w x (Ex o e n st true) slot (Ask w x o e))

-- at the end x, an EX; any other is refused before
abbrev pub ask_at : ℕ → ℕ → Kind → ℕ → Effect
ask_at w x k slot = on_ex (answered Waiting) (ask_ex w x slot) k

-- ---- the calls

module _ (𝓜 : Machine) (s : Tables) where
  -- "new(w): lowest free cell becomes VAR. Value: cell." W-201: "`new` takes a caller number ..; VAR and VAL cells carry it".
  unfoldable pub new : ℕ → ℕ → Effect
  new w caller =
      let c = lowest_free_cell 𝓜 s w in
      checked (new_refusals 𝓜 s w caller) (done c (OfCell w c (Var caller)))

  -- "set(w, c, n): VAR becomes VAL(n)." W-201: "`set` keeps it".
  unfoldable pub set : ℕ → ℕ → ℕ → Effect
  set w c n = checked (set_refusals 𝓜 s w c) (done 0 (OfCell w c (valued n (cell 𝓜 s w c))))

  -- "bind(w, c, x): c is a VAR, the end of x an EX; c becomes a REF to that end." W-201: "A bind loses the variable's own caller". W-203: "binding
  -- to a known EX makes the cell VAL with that value .. the cell keeps its own caller, which amends W-201 for this one case".
  abbrev pub bound_cell : ℕ → ℕ → ℕ → Kind
  bound_cell w c x = bound_to (end 𝓜 s w x) (cell 𝓜 s w c) (end_kind 𝓜 s w x)

  unfoldable pub bind : ℕ → ℕ → ℕ → Effect
  bind w c x = checked (bind_refusals 𝓜 s w c x) (done 0 (OfCell w c (bound_cell w c x)))

  -- "export(w, c, to): .. Value: slot."
  unfoldable pub export : ℕ → ℕ → ℕ → Effect
  export w c to =
      let x = end 𝓜 s w c in
      checked (export_refusals 𝓜 s w c to) (export_end 𝓜 w x to (end_kind 𝓜 s w c) (used 𝓜 s w x) (lowest_empty_slot 𝓜 s))

  -- "indirect(w, c, to): the end must be an EX; that EX cell is exported by location. A new entry is tainted if the EX is unsafe. Value: slot."
  unfoldable pub indirect : ℕ → ℕ → ℕ → Effect
  indirect w c to =
      let x = end 𝓜 s w c in
      checked (indirect_refusals 𝓜 s w c to)
      (by_location 𝓜 w x to (not (safe 𝓜 s w (end_kind 𝓜 s w c))) (used 𝓜 s w x) (lowest_empty_slot 𝓜 s))

  -- "transfer(w, c, to): c itself an EX, not busy; it is freed and its whole weight sent as a Reference. Value: slot."
  unfoldable pub transfer : ℕ → ℕ → ℕ → Effect
  transfer w c to = checked (transfer_refusals 𝓜 s w c to) (transferred w c to (cell 𝓜 s w c) (lowest_empty_slot 𝓜 s))

  -- "drop(w, c): freed. An EX sends its whole weight as Release, value the slot; any other kind: value 64."
  unfoldable pub drop : ℕ → ℕ → Effect
  drop w c = checked (drop_refusals 𝓜 s w c) (dropped w c (cell 𝓜 s w c) (lowest_empty_slot 𝓜 s))

  -- "read(w, c): end VAL or known: done, value n. .."
  unfoldable pub read : ℕ → ℕ → Effect
  read w c = checked (read_refusals 𝓜 s w c) (read_at w (end 𝓜 s w c) (end_kind 𝓜 s w c) (lowest_empty_slot 𝓜 s))

  -- "ask(w, c): end an EX. .."
  unfoldable pub ask : ℕ → ℕ → Effect
  ask w c = checked (ask_refusals 𝓜 s w c) (ask_at w (end 𝓜 s w c) (end_kind 𝓜 s w c) (lowest_empty_slot 𝓜 s))

  -- "bound: value B, the sum of 1 for each Reference, Release, Answer and Supply, 2 for each Ask, and E + 1 for each Read, E the number of
  -- live entries."
  unfoldable pub B : ℕ
  B =
      let E = live_entries s in
      total (λ x. costs E x.message) s.slots

  unfoldable pub bound : Effect
  bound = checked (bound_refusals 𝓜 s) (answered (Done B))
