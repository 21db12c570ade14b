-- What the messages count for `bound`: a small number each, so that the sum stays small. Assumes nothing.
use Rattle.std.specs.Prelude.{ℕ, zero, suc, ◌*◌, ◌≤◌}
use Rattle.std.proofs.Common.{arith}
use Rattle.numbers.specs.Below.{sum_below}
use Rattle.tables.specs.declared.Message.{Message}
use Rattle.tables.specs.declared.Message.TheVariants.{Empty, Reference, Release, Read, Answer, Ask, Supply}
use Rattle.rules.specs.Calls.{costs}

module _ (E : ℕ) (few : E ≤ 255) where
  pub costs_small : (m : Message) → costs E m ≤ 257
  costs_small Empty = omega arith
  costs_small (Reference to o e n) = omega arith
  costs_small (Release o e n) = omega arith
  costs_small (Read r c o e) = omega arith
  costs_small (Answer r c n) = omega arith
  costs_small (Ask a c o e) = omega arith
  costs_small (Supply a c n) = omega arith

  -- of the first i messages
  pub sum_small : (message : ℕ → Message) (i : ℕ) → sum_below i (λ k. costs E (message k)) ≤ i * 257
  unfolding sum_below
  sum_small message zero = omega arith
  sum_small message (suc i) = omega (arith, sum_small message i, costs_small (message i))
