-- Document 01's numbered cases K1 to K10 as one table, the wrong turnings that they leave open as another, a case of W-201's callers, one of W-203's
-- known EX, and the whole run printed in document 01's "text program", as calls with their codes and values. A case begins from a state, and each row is a call
-- with its answer or a look at what then stands in the tables. Assumes nothing.
use Rattle.std.specs.Prelude.{None, ℕ, Bool, true, false, ◌&&◌, ◌||◌, not, List, [], ◌∷◌, ◌++◌, eqb, replicate}
use Rattle.numbers.specs.Below.{all_below, sum_below, lowest_from, walk_meets}
use Rattle.numbers.specs.Lists.{each_from, total}
use Rattle.tables.specs.declared.Status.TheVariants.{Idle, Reading}
use Rattle.tables.specs.declared.Kind.TheVariants.{Free, Var, Val, Ex}
use Rattle.tables.specs.declared.Message.{Message}
use Rattle.tables.specs.declared.Message.TheVariants.{Empty, Reference, Release, Read, Answer, Ask, Supply}
use Rattle.tables.specs.declared.Call.{Call}
use Rattle.tables.specs.declared.Call.TheVariants.{Start, New, Set, Bind, Export, Indirect, Transfer, Drop, ReadCell, AskWeight, Deliver, Bound}
use Rattle.tables.specs.declared.Outcome.{Outcome}
use Rattle.tables.specs.Machine.{Tables, eight}
use Rattle.tables.specs.Parts.{live, is_var, is_val, has_caller, ex_weight, is_unused, entry_weight, message_weight}
use Rattle.tables.specs.Look.{cell, entry, end, end_kind, safe, entry_of, exported, referred, busy, lowest_free_cell, lowest_free_entry, lowest_empty_slot, ex_naming, free_cells, booked, live_entries, message, put_cell, put_entry, put_message}
use Rattle.rules.specs.Answers.{code_of, value_of, checked}
use Rattle.states.specs.Chains.{follow}
use Rattle.states.specs.Sound.{exes_naming, entries_naming, reads_of, asks_of, reached, held, point1, point2, point3, point4, point5, point6, sound}
use Rattle.rules.specs.Refusals.{entry_to_use, ready}
use Rattle.rules.specs.Calls.{all_free, closed, start, new, set, bind, export, indirect, transfer, drop, read, ask, B, bound}
use Rattle.rules.specs.Deliver.{arrival_cell, deliver_home, deliver_away, deliver_release, deliver_read, deliver_answer, deliver_supply, deliver_ask, deliver_message, deliver}
use Rattle.rules.specs.Step.{step}

abbrev pub is_supply : Message → Bool
is_supply Empty = false
is_supply (Reference to o e n) = false
is_supply (Release o e n) = false
is_supply (Read r c o e) = false
is_supply (Answer r c n) = false
is_supply (Ask a c o e) = false
is_supply (Supply a c n) = true

pub data Row : Type 0 where
  -- a call, its code and its value
  gives : Call → ℕ → ℕ → Row
  -- the weight of the EX of a worker's cell, of a message in a slot, of a Supply, of an entry
  cell_weighs : ℕ → ℕ → ℕ → Row
  slot_weighs : ℕ → ℕ → Row
  supply_weighs : ℕ → ℕ → Row
  live_weighs : ℕ → ℕ → ℕ → Row
  -- an entry is free
  entry_free : ℕ → ℕ → Row
  -- the caller of the VAR or VAL of a worker's cell, and a cell that has none
  caller_is : ℕ → ℕ → ℕ → Row
  caller_lost : ℕ → ℕ → Row

-- the answer has this code and value
abbrev pub answers : Outcome → ℕ → ℕ → Bool
answers o code value = eqb (code_of o) code && eqb (value_of o) value

pub data Case : Type 0 where
  case : Tables → List Row → Case

-- ---- K1 to K10

-- "K1 start 0: 1. K2 start 8: done. K3 start 9: 1."
abbrev pub k1 : Case
k1 = case (closed eight) (gives (Start 0) 1 0 ∷ [])

abbrev pub k2 : Case
k2 = case (closed eight) (gives (Start 8) 0 0 ∷ [])

abbrev pub k3 : Case
k3 = case (closed eight) (gives (Start 9) 1 0 ∷ [])

-- "K4 an EX of weight 1,024 with room throughout: ten exports succeed and leave weight 1; the eleventh: 9."
-- "K5 weight 3 exported: 1 sent, 2 kept." Of the ten, those of weight 2 and 1 are delivered, and join: 3.
abbrev pub k4_k5 : Case
k4_k5 =
    case (all_free eight 3)
    (gives (New 0 0) 0 0
    ∷ gives (Export 0 0 1) 0 0
    ∷ gives (Deliver 0) 0 0
    ∷ cell_weighs 1 0 1024
    ∷ gives (Export 1 0 2) 0 0
    ∷ gives (Export 1 0 2) 0 1
    ∷ gives (Export 1 0 2) 0 2
    ∷ gives (Export 1 0 2) 0 3
    ∷ gives (Export 1 0 2) 0 4
    ∷ gives (Export 1 0 2) 0 5
    ∷ gives (Export 1 0 2) 0 6
    ∷ gives (Export 1 0 2) 0 7
    ∷ gives (Export 1 0 2) 0 8
    ∷ gives (Export 1 0 2) 0 9
    ∷ cell_weighs 1 0 1
    ∷ gives (Export 1 0 2) 9 0
    ∷ gives (Deliver 8) 0 0
    ∷ gives (Deliver 9) 0 0
    ∷ cell_weighs 2 0 3
    ∷ gives (Export 2 0 1) 0 8
    ∷ slot_weighs 8 1
    ∷ cell_weighs 2 0 2
    ∷ [])

-- "K6 VAR 0 of worker 1 exported to 0 and delivered (cell 0 there, unsafe); that cell exported indirectly to 1 and delivered (cell 1).
-- Binding cell 0 of worker 1 to cell 1: 8."
abbrev pub k6 : Case
k6 =
    case (all_free eight 2)
    (gives (New 1 0) 0 0
    ∷ gives (Export 1 0 0) 0 0
    ∷ gives (Deliver 0) 0 0
    ∷ gives (Indirect 0 0 1) 0 0
    ∷ gives (Deliver 0) 0 1
    ∷ gives (Bind 1 0 1) 8 0
    ∷ [])

-- "K7 VAR of worker 0 exported to 1 and delivered; an exported VAR of worker 1 is bound to it: done."
abbrev pub k7 : Case
k7 =
    case (all_free eight 2)
    (gives (New 0 0) 0 0
    ∷ gives (Export 0 0 1) 0 0
    ∷ gives (Deliver 0) 0 0
    ∷ gives (New 1 0) 0 1
    ∷ gives (Export 1 1 0) 0 0
    ∷ gives (Bind 1 1 0) 0 0
    ∷ [])

-- "K8 a reading EX dropped: 7."
abbrev pub k8 : Case
k8 =
    case (all_free eight 2)
    (gives (New 0 0) 0 0
    ∷ gives (Export 0 0 1) 0 0
    ∷ gives (Deliver 0) 0 0
    ∷ gives (ReadCell 1 0) 0x40 0
    ∷ gives (Drop 1 0) 7 0
    ∷ [])

-- "K9 a Reference back at its owner, the only weight: entry freed."
abbrev pub k9 : Case
k9 =
    case (all_free eight 2)
    (gives (New 0 0) 0 0
    ∷ gives (Export 0 0 1) 0 0
    ∷ gives (Deliver 0) 0 0
    ∷ gives (Transfer 1 0 0) 0 0
    ∷ live_weighs 0 0 1024
    ∷ gives (Deliver 0) 0 0
    ∷ entry_free 0 0
    ∷ [])

-- "K10 entry at the ceiling, Ask delivered: Supply of 0."
unfoldable pub at_ceiling : Tables
at_ceiling =
    put_entry eight (put_cell eight (put_cell eight (all_free eight 2) 0 0 (Var 0)) 1 0 (Ex 0 0 1048576 Idle false)) 0 0 (live 0 1048576 false)

abbrev pub k10 : Case
k10 =
    case at_ceiling
    (gives (AskWeight 1 0) 0x40 0
    ∷ gives (Deliver 0) 0 0
    ∷ supply_weighs 0 0
    ∷ live_weighs 0 0 1048576
    ∷ gives (Deliver 0) 0 0
    ∷ cell_weighs 1 0 1048576
    ∷ [])

abbrev pub numbered_cases : List Case
numbered_cases = k1 ∷ k2 ∷ k3 ∷ k4_k5 ∷ k6 ∷ k7 ∷ k8 ∷ k9 ∷ k10 ∷ []

-- ---- wrong turnings that the numbered cases leave open

-- "Booking forgotten in new: a Reference arrives and finds no cell." Worker 1 has one free cell, its last, and a Reference comes to it. W-201: 16
-- comes "before 12".
unfoldable pub nearly_full : Tables
nearly_full =
    record {
      p = 2;
      cells =
          replicate 32 (record { kind = Free })
          ++ (replicate 31 (record { kind = Var 0 }) ++ replicate 193 (record { kind = Free }));
      entries = replicate 128 (record { holding = None });
      slots = replicate 64 (record { message = Empty });
    }

abbrev pub booked_cell : Case
booked_cell =
    case nearly_full
    (gives (New 0 0) 0 0
    ∷ gives (Export 0 0 1) 0 0
    ∷ gives (New 1 0) 12 0
    ∷ gives (New 1 256) 16 0
    ∷ gives (Deliver 0) 0 31
    ∷ [])

-- "Freeing an EX's weight once its value is known": the EX keeps it, and its entry stays.
abbrev pub known_keeps_weight : Case
known_keeps_weight =
    case (all_free eight 2)
    (gives (New 0 0) 0 0
    ∷ gives (Set 0 0 7) 0 0
    ∷ gives (Export 0 0 1) 0 0
    ∷ gives (Deliver 0) 0 0
    ∷ gives (ReadCell 1 0) 0x40 0
    ∷ gives (Deliver 0) 0 0
    ∷ gives (Deliver 0) 0 0
    ∷ gives (ReadCell 1 0) 0 7
    ∷ cell_weighs 1 0 1024
    ∷ live_weighs 0 0 1024
    ∷ [])

-- "returns the closed state": after a refused start no worker is there.
abbrev pub refused_start_closes : Case
refused_start_closes = case (all_free eight 2) (gives (Start 9) 1 0 ∷ gives (New 0 0) 3 0 ∷ [])

-- "Every call but the start first tests this": a live entry on which nothing is held.
unfoldable pub nothing_held : Tables
nothing_held = put_entry eight (put_cell eight (all_free eight 2) 0 0 (Var 0)) 0 0 (live 0 1 false)

abbrev pub refused_unsound : Case
refused_unsound =
    case nothing_held
    (gives (New 0 0) 2 0
    ∷ gives (Set 0 0 7) 2 0
    ∷ gives (Bind 0 0 0) 2 0
    ∷ gives (Export 0 0 1) 2 0
    ∷ gives (Indirect 0 0 1) 2 0
    ∷ gives (Transfer 0 0 1) 2 0
    ∷ gives (Drop 0 0) 2 0
    ∷ gives (ReadCell 0 0) 2 0
    ∷ gives (AskWeight 0 0) 2 0
    ∷ gives (Deliver 0) 2 0
    ∷ gives Bound 2 0
    ∷ [])

-- "reach the ceiling; the 1,025th: 10": an entry 1,024 below it.
unfoldable pub below_ceiling : Tables
below_ceiling =
    put_entry eight (put_cell eight (put_cell eight (all_free eight 2) 0 0 (Var 0)) 1 0 (Ex 0 0 1047552 Idle false)) 0 0 (live 0 1047552 false)

abbrev pub ceiling_reached : Case
ceiling_reached =
    case below_ceiling
    (gives (Export 0 0 1) 0 0
    ∷ live_weighs 0 0 1048576
    ∷ gives (Export 0 0 1) 10 0
    ∷ [])

-- Busy: an exported VAR, an EX that a REF names; asking no longer once supplied.
abbrev pub busy_cells : Case
busy_cells =
    case (all_free eight 2)
    (gives (New 0 0) 0 0
    ∷ gives (Export 0 0 1) 0 0
    ∷ gives (Drop 0 0) 7 0
    ∷ gives (Deliver 0) 0 0
    ∷ gives (New 1 0) 0 1
    ∷ gives (Bind 1 1 0) 0 0
    ∷ gives (Drop 1 0) 7 0
    ∷ gives (Drop 1 1) 0 64
    ∷ gives (AskWeight 1 0) 0x40 0
    ∷ gives (Drop 1 0) 7 0
    ∷ gives (Deliver 0) 0 0
    ∷ gives (Deliver 0) 0 0
    ∷ gives (AskWeight 1 0) 0x40 0
    ∷ [])

-- A Release leaves what a Reference under way holds; a VAL is not set again.
abbrev pub kept_by_a_reference : Case
kept_by_a_reference =
    case (all_free eight 2)
    (gives (New 0 0) 0 0
    ∷ gives (Set 0 0 7) 0 0
    ∷ gives (Set 0 0 8) 6 0
    ∷ gives (Export 0 0 1) 0 0
    ∷ gives (Deliver 0) 0 0
    ∷ gives (Export 0 0 1) 0 0
    ∷ gives (Drop 1 0) 0 1
    ∷ gives (Deliver 1) 0 0
    ∷ live_weighs 0 0 1024
    ∷ [])

abbrev pub wrong_turnings : List Case
wrong_turnings = booked_cell ∷ known_keeps_weight ∷ refused_start_closes ∷ refused_unsound ∷ ceiling_reached ∷ busy_cells ∷ kept_by_a_reference ∷ []

-- ---- W-201: "`new` takes a caller number, 0 to 255 ..; VAR and VAL cells carry it, `set` keeps it, a REF or EX has none of its own .. A bind
-- loses the variable's own caller"; "16 for a caller above 255, after 3". A VAR of caller 255 of worker 0, one of caller 9 of worker 1, both
-- exported, and each an EX of the other's.
unfoldable pub called : Tables
called =
    let vars = put_cell eight (put_cell eight (all_free eight 2) 0 0 (Var 255)) 1 0 (Var 9) in
    let exes = put_cell eight (put_cell eight vars 0 1 (Ex 1 0 5 Idle false)) 1 1 (Ex 0 0 5 Idle false) in
    put_entry eight (put_entry eight exes 0 0 (live 0 5 false)) 1 0 (live 0 5 false)

abbrev pub callers : Case
callers =
    case called
    (gives (New 0 255) 0 2
    ∷ caller_is 0 2 255
    ∷ gives (New 0 256) 16 0
    ∷ gives (New 2 256) 3 0
    ∷ gives (Set 0 0 7) 0 0
    ∷ caller_is 0 0 255
    ∷ gives (Bind 1 0 1) 0 0
    ∷ caller_lost 1 0
    ∷ caller_is 0 0 255
    ∷ [])

-- ---- W-203: "binding to a known EX makes the cell VAL with that value, exported or not ..; the cell keeps its own caller"; "Refusal 8 is given only
-- for an EX that is not known." A VAR of caller 9 of worker 0, exported, and a reading EX of a VAL of caller 4 of worker 1, which is unsafe there.
unfoldable pub unsafe_reading : Tables
unsafe_reading =
    let contexts = put_cell eight (put_cell eight (all_free eight 2) 0 0 (Var 9)) 1 0 (Val 7 4) in
    let exes = put_cell eight (put_cell eight contexts 0 1 (Ex 1 0 5 Reading false)) 1 1 (Ex 0 0 5 Idle false) in
    put_message (put_entry eight (put_entry eight exes 0 0 (live 0 5 false)) 1 0 (live 0 5 false)) 0 (Read 0 1 1 0)

abbrev pub known_bind : Case
known_bind =
    case unsafe_reading
    (gives (Bind 0 0 1) 8 0
    ∷ gives (Deliver 0) 0 0
    ∷ gives (Deliver 0) 0 1
    ∷ gives (Bind 0 0 1) 0 0
    ∷ caller_is 0 0 9
    ∷ gives (ReadCell 0 0) 0 7
    ∷ cell_weighs 0 1 5
    ∷ gives (Drop 0 1) 0 0
    ∷ [])

-- ---- "A whole run, input then output, line for line"
abbrev pub whole_run : Case
whole_run =
    case (closed eight)
    (gives (Start 2) 0 0
    ∷ gives (New 0 0) 0 0
    ∷ gives (Export 0 0 1) 0 0
    ∷ gives (Deliver 0) 0 0
    ∷ gives (ReadCell 1 0) 0x40 0
    ∷ gives (Deliver 0) 0x0f 0
    ∷ gives (Set 0 0 7) 0 0
    ∷ gives (Deliver 0) 0 0
    ∷ gives (Deliver 0) 0 0
    ∷ gives (ReadCell 1 0) 0 7
    ∷ gives (Drop 1 0) 0 0
    ∷ gives (Deliver 0) 0 0
    ∷ gives (Drop 0 0) 0 64
    ∷ [])

-- ---- the table is run: `hold` opens every rule, so that a proof that opens it computes

-- every row holds, one after the other
unfoldable pub holds_from : Tables → List Row → Bool
unfolding all_below sum_below lowest_from walk_meets each_from total cell entry end end_kind safe entry_of exported referred busy lowest_free_cell lowest_free_entry lowest_empty_slot ex_naming free_cells booked live_entries put_cell put_entry put_message checked exes_naming entries_naming reads_of asks_of follow reached held point1 point2 point3 point4 point5 point6 sound entry_to_use ready all_free start new set bind export indirect transfer drop read ask B bound arrival_cell deliver_home deliver_away deliver_release deliver_read deliver_answer deliver_supply deliver_ask deliver_message deliver step at_ceiling nearly_full nothing_held below_ceiling called unsafe_reading
holds_from s [] = true
holds_from s ((gives q code value) ∷ rows) =
    let r = step eight s q in
    answers r.outcome code value && holds_from r.after rows
holds_from s ((cell_weighs w c n) ∷ rows) = eqb (ex_weight (cell eight s w c)) n && holds_from s rows
holds_from s ((slot_weighs k n) ∷ rows) = eqb (message_weight (message s k)) n && holds_from s rows
holds_from s ((supply_weighs k n) ∷ rows) =
    is_supply (message s k) && eqb (message_weight (message s k)) n && holds_from s rows
holds_from s ((live_weighs w e n) ∷ rows) = eqb (entry_weight (entry eight s w e)) n && holds_from s rows
holds_from s ((entry_free w e) ∷ rows) = is_unused (entry eight s w e) && holds_from s rows
holds_from s ((caller_is w c who) ∷ rows) = has_caller who (cell eight s w c) && holds_from s rows
holds_from s ((caller_lost w c) ∷ rows) =
    not (is_var (cell eight s w c) || is_val (cell eight s w c)) && holds_from s rows

unfoldable pub hold : List Case → Bool
unfolding holds_from
hold [] = true
hold ((case s rows) ∷ cases) = holds_from s rows && hold cases
