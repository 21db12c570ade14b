-- "Where several apply, the lowest is given": `checked` gives the first of a call's refusals that applies, the refusals of every call stand
-- in the order of precedence, which is the order of document 01's numbers, and a later number stands where its request says. Assumes nothing.
use Prim.Native.Nat.{ℕ, ◌*◌, ◌≤◌, ◌<◌}
use native.Mathlib.Omega.{arith}
use mathlib.Core.Path.{◌≡◌, refl}
use mathlib.Core.Bool.{Bool, true, false, cond}
use mathlib.Core.List.{List, [], ◌∷◌, ◌++◌}
use lib.Dec.{leb}
use borrow.Author.Tests.{leb-true}
use Rattle.numbers.specs.Tests.{and_l, and_r}
use Rattle.tables.specs.declared.Refusal.{Refusal}
use Rattle.tables.specs.declared.Refusal.TheVariants.{WorkerCount, NotSound, NoWorker, ToItself, NoCell, WrongKind, Busy, Unsafe, LastWeight, OverCeiling, NoEntry, NoRoom, NoSlot, NoMessage, NotReady, NoCaller, TooManyCharges}
use Rattle.tables.specs.declared.Effect.{Effect}
use Rattle.tables.specs.declared.Call.{Call}
use Rattle.tables.specs.declared.Call.TheVariants.{Start, New, Set, Bind, Export, Indirect, Transfer, Drop, ReadCell, AskWeight, Deliver, Bound}
use Rattle.tables.specs.Machine.{Machine, Tables}
use Rattle.tables.specs.Parts.{is_ex}
use Rattle.tables.specs.Look.{cell, end, end_kind, room}
use Rattle.rules.specs.Answers.{Check, ◌when◌, checked, number_of, precedence}
use Rattle.states.specs.Sound.{sound}
use Rattle.rules.specs.Refusals.{send_lines, by_reference_lines, by_location_lines, used, report_lines}
use Rattle.rules.specs.Order.{in_order_from, in_order, Applies, first, later, LowestGiven, refusals_of}

-- what applies in a list in order stands no lower than where the list begins
at_least : (n : ℕ) (l : List Check) → in_order_from n l ≡ true → (why : Refusal) → Applies why l → n ≤ precedence why
unfolding in_order_from
at_least n [] h why a = elim a [ ]
at_least n ((w when b) ∷ l) h why (first r) = leb-true n (precedence w) (and_l (leb n (precedence w)) (in_order_from (precedence w) l) h)
at_least n ((w when b) ∷ l) h why (later c r a) =
    let here = leb-true n (precedence w) (and_l (leb n (precedence w)) (in_order_from (precedence w) l) h) in
    omega (arith, at_least (precedence w) l (and_r (leb n (precedence w)) (in_order_from (precedence w) l) h) why a)

-- the first that applies is the lowest
pub lowest_given : (n : ℕ) (l : List Check) (d : Effect) → in_order_from n l ≡ true → (why : Refusal) → Applies why l → LowestGiven l d why
unfolding in_order_from checked
lowest_given n [] d h why a = elim a [ ]
lowest_given n ((w when true) ∷ l) d h why (first r) = record { given = w; is = refl; lowest = omega arith }
lowest_given n ((w when true) ∷ l) d h why (later c r a) =
    record { given = w; is = refl; lowest = at_least (precedence w) l (and_r (leb n (precedence w)) (in_order_from (precedence w) l) h) why a }
lowest_given n ((w when false) ∷ l) d h why (later c r a) =
    let x = lowest_given (precedence w) l d (and_r (leb n (precedence w)) (in_order_from (precedence w) l) h) why a in
    record { given = x.given; is = x.is; lowest = x.lowest }

-- document 01's fifteen stand in the order of their numbers
pub by_number : (why : Refusal) → number_of why ≤ 15 → precedence why ≡ 10 * number_of why
by_number WorkerCount h = refl
by_number NotSound h = refl
by_number NoWorker h = refl
by_number ToItself h = refl
by_number NoCell h = refl
by_number WrongKind h = refl
by_number Busy h = refl
by_number Unsafe h = refl
by_number LastWeight h = refl
by_number OverCeiling h = refl
by_number NoEntry h = refl
by_number NoRoom h = refl
by_number NoSlot h = refl
by_number NoMessage h = refl
by_number NotReady h = refl
by_number NoCaller h = absurd (omega arith)
by_number TooManyCharges h = absurd (omega arith)

-- "16 for a caller above 255, after 3 and before 12"
pub caller_between : (precedence NoWorker < precedence NoCaller) × (precedence NoCaller < precedence NoRoom)
caller_between = (omega arith, omega arith)

-- "2; then 17 for a longer list"
pub report_in_order : (is_sound : Bool) (n : ℕ) → in_order (report_lines is_sound n) ≡ true
unfolding in_order_from
report_in_order is_sound n = refl

pub in_order_lem : (𝓜 : Machine) (s : Tables) (q : Call) → in_order (refusals_of 𝓜 s q) ≡ true
unfolding in_order_from
in_order_lem 𝓜 s (Start p) = refl
in_order_lem 𝓜 s (New w caller) = refl
in_order_lem 𝓜 s (Set w c n) = refl
in_order_lem 𝓜 s (Bind w c x) = refl
in_order_lem 𝓜 s (Export w c to) = go (is_ex (end_kind 𝓜 s w c))
  where
    -- by reference and by location
    lines : Bool → List Check
    lines ex = cond ex (by_reference_lines 𝓜 (end_kind 𝓜 s w c) (room 𝓜 s to)) (by_location_lines 𝓜 (used 𝓜 s w (end 𝓜 s w c)) (room 𝓜 s to))

    go : (ex : Bool) → in_order (send_lines (sound 𝓜 s) s.p w to (cell 𝓜 s w c) ++ lines ex) ≡ true
    go true = refl
    go false = refl
in_order_lem 𝓜 s (Indirect w c to) = refl
in_order_lem 𝓜 s (Transfer w c to) = refl
in_order_lem 𝓜 s (Drop w c) = refl
in_order_lem 𝓜 s (ReadCell w c) = refl
in_order_lem 𝓜 s (AskWeight w c) = refl
in_order_lem 𝓜 s (Deliver k) = refl
in_order_lem 𝓜 s Bound = refl
