-- The table of refusal numbers: for each line when it applies, and for each call its lines in the order of precedence; both over what a call
-- has looked up, and then in a state. Assumes nothing.
use Rattle.std.specs.Prelude.{ℕ, ◌+◌, Bool, true, false, ◌&&◌, ◌||◌, not, cond, List, [], ◌∷◌, ◌++◌, ltb, leb, eqb}
use Rattle.tables.specs.declared.Status.{Status}
use Rattle.tables.specs.declared.Status.TheVariants.{Idle, Reading, Known}
use Rattle.tables.specs.declared.Kind.{Kind}
use Rattle.tables.specs.declared.Kind.TheVariants.{Free}
use Rattle.tables.specs.declared.Message.{Message}
use Rattle.tables.specs.declared.Used.{Used}
use Rattle.tables.specs.declared.Room.{Room}
use Rattle.tables.specs.declared.Refusal.TheVariants.{NotSound, NoWorker, ToItself, NoCell, WrongKind, Busy, Unsafe, LastWeight, OverCeiling, NoEntry, NoRoom, NoSlot, NoMessage, NotReady, NoCaller, TooManyCharges}
use Rattle.tables.specs.Machine.{Machine, Tables}
use Rattle.tables.specs.Parts.{on_ex, is_free, is_var, is_ex, is_known, is_asking, ex_weight, entry_weight, is_empty, on_read}
use Rattle.tables.specs.Look.{cell, entry, end, end_kind, safe, entry_of, exported, busy, lowest_free_entry, lowest_empty_slot, free_cells, booked, message, room}
use Rattle.rules.specs.Answers.{Check, ◌when◌}
use Rattle.states.specs.Chains.{entry_end}
use Rattle.states.specs.Sound.{sound}

-- a read of an idle EX sends
abbrev pub idle : Status → Bool
idle Idle = true
idle Reading = false
idle (Known n) = false

abbrev pub read_sends : Kind → Bool
read_sends k = on_ex false (λ o e n st a. idle st) k

-- ---- each line of the table, over what a call has looked up

-- "A read is ready unless the end of its entry's cell is a VAR; all other messages are ready."
abbrev pub ready_at : Message → Kind → Bool
ready_at m x = on_read true (λ r c o e. not (is_var x)) m

-- 1: "P is 0 or above 8"
abbrev pub bad_count : Machine → ℕ → Bool
bad_count 𝓜 p = eqb p 0 || ltb 𝓜.workers p

-- 2: "state not sound"
abbrev pub not_sound : Bool → Check
not_sound is_sound = NotSound when not is_sound

-- 3: "a worker number is P or more"
abbrev pub no_worker : ℕ → ℕ → Check
no_worker p w = NoWorker when leb p w

-- 4: "`to` equals w"
abbrev pub to_itself : ℕ → ℕ → Check
to_itself w to = ToItself when eqb to w

-- 5: "cell number above 31, or cell free"; a cell of such a number reads free
abbrev pub no_cell : Kind → Check
no_cell k = NoCell when is_free k

-- 6: "cell not of the kind named above"
abbrev pub not_var : Kind → Check
not_var k = WrongKind when not (is_var k)

abbrev pub not_ex : Kind → Check
not_ex k = WrongKind when not (is_ex k)

-- 7: "busy"
abbrev pub busy_cell : Bool → Check
busy_cell is_busy = Busy when is_busy

-- 8: "c has a live entry and the EX is unsafe"; W-203: "only for an EX that is not known"
abbrev pub unsafe_bind : Bool → Bool → Kind → Check
unsafe_bind has_entry is_safe ex = Unsafe when (not (is_known ex) && (has_entry && not is_safe))

-- 9: "EX of weight 1"
abbrev pub last_weight : Kind → Check
last_weight ex = LastWeight when leb (ex_weight ex) 1

-- 10: "entry would pass the ceiling"
abbrev pub over_ceiling : Machine → Used → Check
over_ceiling 𝓜 u = OverCeiling when ltb 𝓜.ceiling (entry_weight u.holding + 𝓜.first_weight)

-- 11: "no free entry where one is needed"
abbrev pub no_entry : Machine → Used → Check
no_entry 𝓜 u = NoEntry when leb 𝓜.entries u.number

-- 12: "free cells at the receiver (for new, at w) do not exceed those booked"
abbrev pub no_room : ℕ → ℕ → Check
no_room free booked_there = NoRoom when leb free booked_there

-- 13: "no empty slot where a message is sent"
abbrev pub no_slot_if : Machine → Bool → ℕ → Check
no_slot_if 𝓜 sends slot = NoSlot when (sends && leb 𝓜.slots slot)

-- 14: "slot above 63, or empty"; a slot of such a number reads empty
abbrev pub no_message : Message → Check
no_message m = NoMessage when is_empty m

-- 15: "a read that is not ready"
abbrev pub not_ready : Bool → Check
not_ready is_ready = NotReady when not is_ready

-- 16: "for a caller above 255"
abbrev pub no_caller : ℕ → Check
no_caller caller = NoCaller when ltb 255 caller

-- 17: "for a longer list" than "At most 65,535 charges"
abbrev pub too_many_charges : ℕ → Check
too_many_charges n = TooManyCharges when ltb 65535 n

-- ---- the lines of each call, over what it has looked up: what is wrong with its arguments, 2 to 6, 16 and 17, and then with the moment, 7 to 15

abbrev pub worker_lines : Bool → ℕ → ℕ → List Check
worker_lines is_sound p w = not_sound is_sound ∷ no_worker p w ∷ []

-- "16 .., after 3 and before 12"
abbrev pub new_lines : Bool → ℕ → ℕ → ℕ → ℕ → ℕ → List Check
new_lines is_sound p w caller free booked_there = (worker_lines is_sound p w ++ no_caller caller ∷ []) ++ no_room free booked_there ∷ []

-- k is what the cell holds
abbrev pub cell_lines : Bool → ℕ → ℕ → Kind → List Check
cell_lines is_sound p w k = worker_lines is_sound p w ++ no_cell k ∷ []

abbrev pub set_lines : Bool → ℕ → ℕ → Kind → List Check
set_lines is_sound p w k = (cell_lines is_sound p w k ++ not_var k ∷ []) ++ []

-- k and x are what the two cells hold, ex the end of the other one
abbrev pub bind_lines : Bool → ℕ → ℕ → Kind → Kind → Kind → Bool → Bool → List Check
bind_lines is_sound p w k x ex has_entry is_safe =
    (cell_lines is_sound p w k ++ no_cell x ∷ not_var k ∷ not_ex ex ∷ []) ++ unsafe_bind has_entry is_safe ex ∷ []

-- what export, indirect and transfer test first
abbrev pub send_lines : Bool → ℕ → ℕ → ℕ → Kind → List Check
send_lines is_sound p w to k = worker_lines is_sound p w ++ no_worker p to ∷ to_itself w to ∷ no_cell k ∷ []

-- and last
abbrev pub room_lines : Machine → Room → List Check
room_lines 𝓜 r = no_room r.free r.booked ∷ no_slot_if 𝓜 true r.slot ∷ []

abbrev pub by_reference_lines : Machine → Kind → Room → List Check
by_reference_lines 𝓜 ex r = last_weight ex ∷ room_lines 𝓜 r

abbrev pub by_location_lines : Machine → Used → Room → List Check
by_location_lines 𝓜 u r = over_ceiling 𝓜 u ∷ no_entry 𝓜 u ∷ room_lines 𝓜 r

-- k is the cell, x its end: an EX goes by reference, and else by location
abbrev pub export_lines : Machine → Bool → ℕ → ℕ → ℕ → Kind → Kind → Used → Room → List Check
export_lines 𝓜 is_sound p w to k x u r = send_lines is_sound p w to k ++ cond (is_ex x) (by_reference_lines 𝓜 x r) (by_location_lines 𝓜 u r)

abbrev pub indirect_lines : Machine → Bool → ℕ → ℕ → ℕ → Kind → Kind → Used → Room → List Check
indirect_lines 𝓜 is_sound p w to k x u r = (send_lines is_sound p w to k ++ not_ex x ∷ []) ++ by_location_lines 𝓜 u r

abbrev pub transfer_lines : Machine → Bool → ℕ → ℕ → ℕ → Kind → Bool → Room → List Check
transfer_lines 𝓜 is_sound p w to k is_busy r = (send_lines is_sound p w to k ++ not_ex k ∷ []) ++ busy_cell is_busy ∷ room_lines 𝓜 r

abbrev pub drop_lines : Machine → Bool → ℕ → ℕ → Kind → Bool → ℕ → List Check
drop_lines 𝓜 is_sound p w k is_busy slot = cell_lines is_sound p w k ++ busy_cell is_busy ∷ no_slot_if 𝓜 (is_ex k) slot ∷ []

-- x is the end of the cell
abbrev pub read_lines : Machine → Bool → ℕ → ℕ → Kind → Kind → ℕ → List Check
read_lines 𝓜 is_sound p w k x slot = cell_lines is_sound p w k ++ no_slot_if 𝓜 (read_sends x) slot ∷ []

abbrev pub ask_lines : Machine → Bool → ℕ → ℕ → Kind → Kind → ℕ → List Check
ask_lines 𝓜 is_sound p w k x slot = (cell_lines is_sound p w k ++ not_ex x ∷ []) ++ no_slot_if 𝓜 (not (is_asking x)) slot ∷ []

abbrev pub deliver_lines : Bool → Message → Bool → List Check
deliver_lines is_sound m is_ready = (not_sound is_sound ∷ []) ++ no_message m ∷ not_ready is_ready ∷ []

abbrev pub bound_lines : Bool → List Check
bound_lines is_sound = (not_sound is_sound ∷ []) ++ []

-- the report's, of n charges: "2; then 17"
abbrev pub report_lines : Bool → ℕ → List Check
report_lines is_sound n = (not_sound is_sound ∷ too_many_charges n ∷ []) ++ []

-- ---- what is looked up

module _ (𝓜 : Machine) (s : Tables) where
  -- by location: "Its entry, or the lowest free one"
  unfoldable pub entry_to_use : ℕ → ℕ → ℕ
  entry_to_use w c = cond (exported 𝓜 s w c) (entry_of 𝓜 s w c) (lowest_free_entry 𝓜 s w)

  abbrev pub used : ℕ → ℕ → Used
  used w c = record { number = entry_to_use w c; holding = entry 𝓜 s w (entry_to_use w c) }

  -- the end that a Read comes to
  abbrev pub read_end : Message → Kind
  read_end m = on_read Free (λ r c o e. entry_end 𝓜 s o (entry 𝓜 s o e)) m

  unfoldable pub ready : Message → Bool
  ready m = ready_at m (read_end m)

  -- ---- the lines of each call in a state

  abbrev pub new_refusals : ℕ → ℕ → List Check
  new_refusals w caller = new_lines (sound 𝓜 s) s.p w caller (free_cells 𝓜 s w) (booked s w)

  abbrev pub set_refusals : ℕ → ℕ → List Check
  set_refusals w c = set_lines (sound 𝓜 s) s.p w (cell 𝓜 s w c)

  abbrev pub bind_refusals : ℕ → ℕ → ℕ → List Check
  bind_refusals w c x =
      bind_lines (sound 𝓜 s) s.p w (cell 𝓜 s w c) (cell 𝓜 s w x) (end_kind 𝓜 s w x) (exported 𝓜 s w c) (safe 𝓜 s w (end_kind 𝓜 s w x))

  abbrev pub export_refusals : ℕ → ℕ → ℕ → List Check
  export_refusals w c to =
      export_lines 𝓜 (sound 𝓜 s) s.p w to (cell 𝓜 s w c) (end_kind 𝓜 s w c) (used w (end 𝓜 s w c)) (room 𝓜 s to)

  abbrev pub indirect_refusals : ℕ → ℕ → ℕ → List Check
  indirect_refusals w c to =
      indirect_lines 𝓜 (sound 𝓜 s) s.p w to (cell 𝓜 s w c) (end_kind 𝓜 s w c) (used w (end 𝓜 s w c)) (room 𝓜 s to)

  abbrev pub transfer_refusals : ℕ → ℕ → ℕ → List Check
  transfer_refusals w c to = transfer_lines 𝓜 (sound 𝓜 s) s.p w to (cell 𝓜 s w c) (busy 𝓜 s w c) (room 𝓜 s to)

  abbrev pub drop_refusals : ℕ → ℕ → List Check
  drop_refusals w c = drop_lines 𝓜 (sound 𝓜 s) s.p w (cell 𝓜 s w c) (busy 𝓜 s w c) (lowest_empty_slot 𝓜 s)

  abbrev pub read_refusals : ℕ → ℕ → List Check
  read_refusals w c = read_lines 𝓜 (sound 𝓜 s) s.p w (cell 𝓜 s w c) (end_kind 𝓜 s w c) (lowest_empty_slot 𝓜 s)

  abbrev pub ask_refusals : ℕ → ℕ → List Check
  ask_refusals w c = ask_lines 𝓜 (sound 𝓜 s) s.p w (cell 𝓜 s w c) (end_kind 𝓜 s w c) (lowest_empty_slot 𝓜 s)

  abbrev pub deliver_refusals : ℕ → List Check
  deliver_refusals k = deliver_lines (sound 𝓜 s) (message s k) (ready (message s k))

  abbrev pub bound_refusals : List Check
  bound_refusals = bound_lines (sound 𝓜 s)

  abbrev pub report_refusals : ℕ → List Check
  report_refusals n = report_lines (sound 𝓜 s) n
