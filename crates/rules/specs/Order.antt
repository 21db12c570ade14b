-- What "the lowest is given" asks of a list of refusals, that they stand in the order of precedence; and what it says. Assumes nothing.
use Rattle.std.specs.Prelude.{ℕ, ◌≤◌, Bool, true, false, ◌&&◌, List, [], ◌∷◌, ◌≡◌, leb}
use Rattle.tables.specs.declared.Refusal.{Refusal}
use Rattle.tables.specs.declared.Outcome.TheVariants.{Refused}
use Rattle.tables.specs.declared.Effect.{Effect}
use Rattle.tables.specs.declared.Call.{Call}
use Rattle.tables.specs.declared.Call.TheVariants.{Start, New, Set, Bind, Export, Indirect, Transfer, Drop, ReadCell, AskWeight, Deliver, Bound}
use Rattle.tables.specs.Machine.{Machine, Tables}
use Rattle.rules.specs.Answers.{Check, ◌when◌, checked, precedence}
use Rattle.rules.specs.Refusals.{new_refusals, set_refusals, bind_refusals, export_refusals, indirect_refusals, transfer_refusals, drop_refusals, read_refusals, ask_refusals, deliver_refusals, bound_refusals}

-- every precedence of the list is at least n, and at least the one before it
unfoldable pub in_order_from : ℕ → List Check → Bool
in_order_from n [] = true
in_order_from n ((why when hit) ∷ l) = leb n (precedence why) && in_order_from (precedence why) l

abbrev pub in_order : List Check → Bool
in_order l = in_order_from 0 l

-- no line of the list applies
abbrev pub Passed : List Check → Type 0
Passed [] = Unit {0}
Passed ((why when hit) ∷ l) = (hit ≡ false) × Passed l

-- a line of the list applies, and is this refusal's
pub data Applies (why : Refusal) : List Check → Type 0 where
  first : (l : List Check) → Applies why ((why when true) ∷ l)
  later : (c : Check) (l : List Check) → Applies why l → Applies why (c ∷ l)

-- "Where several apply, the lowest is given": the refusal that is given stands no later than this one
pub record LowestGiven (l : List Check) (d : Effect) (why : Refusal) : Type 0 where
  pub given : Refusal
  pub is : (checked l d).outcome ≡ Refused given
  pub lowest : precedence given ≤ precedence why

-- the lines of each call but start, which has one
abbrev pub refusals_of : Machine → Tables → Call → List Check
refusals_of 𝓜 s (Start p) = []
refusals_of 𝓜 s (New w caller) = new_refusals 𝓜 s w caller
refusals_of 𝓜 s (Set w c n) = set_refusals 𝓜 s w c
refusals_of 𝓜 s (Bind w c x) = bind_refusals 𝓜 s w c x
refusals_of 𝓜 s (Export w c to) = export_refusals 𝓜 s w c to
refusals_of 𝓜 s (Indirect w c to) = indirect_refusals 𝓜 s w c to
refusals_of 𝓜 s (Transfer w c to) = transfer_refusals 𝓜 s w c to
refusals_of 𝓜 s (Drop w c) = drop_refusals 𝓜 s w c
refusals_of 𝓜 s (ReadCell w c) = read_refusals 𝓜 s w c
refusals_of 𝓜 s (AskWeight w c) = ask_refusals 𝓜 s w c
refusals_of 𝓜 s (Deliver k) = deliver_refusals 𝓜 s k
refusals_of 𝓜 s Bound = bound_refusals 𝓜 s
