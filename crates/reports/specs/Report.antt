-- "W-202. Cost report": what a list of charges comes to in a state. Assumes nothing.
use Rattle.std.specs.Prelude.{ℕ, Bool, not, cond, List, [], ◌∷◌, eqb, ℤ, pos, ◌+ℤ◌, length}
use Rattle.numbers.specs.Below.{bit}
use Rattle.numbers.specs.Lists.{total, listed}
use Rattle.tables.specs.declared.Outcome.{Outcome}
use Rattle.tables.specs.declared.Outcome.TheVariants.{Done}
use Rattle.tables.specs.Machine.{Machine, Tables}
use Rattle.rules.specs.Answers.{succeeds, answered, checked}
use Rattle.rules.specs.Refusals.{report_refusals}
use Rattle.rules.specs.Payers.{is_caller, payer}
use Rattle.reports.specs.declared.Charge.{Charge}
use Rattle.reports.specs.declared.CostReport.{CostReport}

-- the sum of the amounts of those charges that have p, and how many there are
unfoldable pub amounts_of : (Charge → Bool) → List Charge → ℤ
amounts_of p [] = pos 0
amounts_of p (c ∷ cs) = cond (p c) c.amount (pos 0) +ℤ amounts_of p cs

abbrev pub count_of : (Charge → Bool) → List Charge → ℕ
count_of p cs = total (λ c. bit (p c)) cs

-- "both leave all totals and both numbers of charges 0": where the report is refused, no charge is taken
abbrev pub taken : Outcome → List Charge → List Charge
taken outcome cs = cond (succeeds outcome) cs []

module _ (𝓜 : Machine) (s : Tables) where
  -- "A charge belongs to the caller found by following ends and references from its cell to a VAR or VAL."
  abbrev pub payer_of : Charge → ℕ
  payer_of c = payer 𝓜 s c.worker c.cell

  abbrev pub belongs_to : ℕ → Charge → Bool
  belongs_to who c = eqb (payer_of c) who

  abbrev pub is_placed : Charge → Bool
  is_placed c = is_caller (payer_of c)

  -- "The report gives 256 signed 64-bit totals, the unplaced total, and how many charges were placed and how many unplaced", "each total worked
  -- out from its own charges"
  abbrev pub totalled : Outcome → List Charge → CostReport
  totalled outcome cs =
      record {
        outcome = outcome;
        totals = listed 256 (λ who. amounts_of (belongs_to who) cs);
        unplaced = amounts_of (λ c. not (is_placed c)) cs;
        placed = count_of is_placed cs;
        missed = count_of (λ c. not (is_placed c)) cs;
      }

  -- "Refusals: 2; then 17 for a longer list"
  abbrev pub reported : ℕ → Outcome
  reported n = (checked (report_refusals 𝓜 s n) (answered (Done 0))).outcome

  -- the report of a list of charges in this state
  unfoldable pub report : List Charge → CostReport
  report cs = totalled (reported (length cs)) (taken (reported (length cs)) cs)
