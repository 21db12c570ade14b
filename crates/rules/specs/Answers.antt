-- What a call gives: its answer and what it changes; the documents' number of each refusal, code and value of each answer. Assumes nothing.
use Rattle.std.specs.Prelude.{ℕ, Bool, true, false, List, [], ◌∷◌}
use Rattle.tables.specs.declared.Refusal.{Refusal}
use Rattle.tables.specs.declared.Refusal.TheVariants.{WorkerCount, NotSound, NoWorker, ToItself, NoCell, WrongKind, Busy, Unsafe, LastWeight, OverCeiling, NoEntry, NoRoom, NoSlot, NoMessage, NotReady, NoCaller, TooManyCharges}
use Rattle.tables.specs.declared.Outcome.{Outcome}
use Rattle.tables.specs.declared.Outcome.TheVariants.{Done, Sent, Waiting, Unbound, Refused}
use Rattle.tables.specs.declared.Change.{Change}
use Rattle.tables.specs.declared.Change.TheVariants.{Nothing}
use Rattle.tables.specs.declared.Effect.{Effect}
use Rattle.tables.specs.declared.Reply.{Reply}
use Rattle.tables.specs.Machine.{Machine, Tables, state}
use Rattle.tables.specs.Look.{changed}

-- the number of a refusal
abbrev pub number_of : Refusal → ℕ
number_of WorkerCount = 1
number_of NotSound = 2
number_of NoWorker = 3
number_of ToItself = 4
number_of NoCell = 5
number_of WrongKind = 6
number_of Busy = 7
number_of Unsafe = 8
number_of LastWeight = 9
number_of OverCeiling = 10
number_of NoEntry = 11
number_of NoRoom = 12
number_of NoSlot = 13
number_of NoMessage = 14
number_of NotReady = 15
number_of NoCaller = 16
number_of TooManyCharges = 17

-- Where several apply, the one of the lowest precedence is given. For document 01's fifteen it is the order of the numbers; a later number
-- says what it stands after and before: "16 .., after 3 and before 12", "2; then 17".
abbrev pub precedence : Refusal → ℕ
precedence WorkerCount = 10
precedence NotSound = 20
precedence NoWorker = 30
precedence NoCaller = 35
precedence ToItself = 40
precedence NoCell = 50
precedence WrongKind = 60
precedence Busy = 70
precedence Unsafe = 80
precedence LastWeight = 90
precedence OverCeiling = 100
precedence NoEntry = 110
precedence NoRoom = 120
precedence NoSlot = 130
precedence NoMessage = 140
precedence NotReady = 150
precedence TooManyCharges = 170

-- "code (00 done, 01 to 0f refused, by number, later numbers likewise, 40 Sent, 41 Waiting, 42 Unbound ..) and value"
abbrev pub code_of : Outcome → ℕ
code_of (Done v) = 0
code_of (Sent k) = 0x40
code_of Waiting = 0x41
code_of Unbound = 0x42
code_of (Refused why) = number_of why

-- "Value is 0 where none is given."
abbrev pub value_of : Outcome → ℕ
value_of (Done v) = v
value_of (Sent k) = k
value_of Waiting = 0
value_of Unbound = 0
value_of (Refused why) = 0

-- the call was not refused
abbrev pub succeeds : Outcome → Bool
succeeds (Done v) = true
succeeds (Sent k) = true
succeeds Waiting = true
succeeds Unbound = true
succeeds (Refused why) = false

-- done with this value, sent with this slot, or answered without a change; and what is changed
abbrev pub done : ℕ → Change → Effect
done v d = record { outcome = Done v; change = d }

abbrev pub sent : ℕ → Change → Effect
sent k d = record { outcome = Sent k; change = d }

abbrev pub answered : Outcome → Effect
answered o = record { outcome = o; change = Nothing }

-- a call's answer, and the next state
pub record Result : Type 0 where
  pub outcome : Outcome
  pub after : Tables

-- what a call does, in these tables
abbrev pub made : Machine → Tables → Effect → Result
made 𝓜 s d = record { outcome = d.outcome; after = changed 𝓜 s d.change }

-- as the code hands it back
abbrev pub reply : Result → Reply
reply r = record { outcome = r.outcome; state = state r.after }

-- ---- refusals in order

-- a line of the table of refusal numbers: why, and when
pub data Check : Type 0 where
  ◌when◌ : Refusal → Bool → Check

infix 5 ◌when◌
-- "All but 1 return the state as it came": a refusal changes nothing
abbrev pub refuse : Bool → Refusal → Effect → Effect
refuse true why d = answered (Refused why)
refuse false why d = d

-- "Where several apply, the lowest is given": the first of the list, which is in the order of precedence
unfoldable pub checked : List Check → Effect → Effect
checked [] d = d
checked ((why when hit) ∷ l) d = refuse hit why (checked l d)
