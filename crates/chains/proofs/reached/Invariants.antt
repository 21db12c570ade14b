-- The loop of `chains::reached`: how far it has come.
use Rattle.numbers.specs.Below.{walk_meets}
use Rattle.tables.specs.Machine.{eight}
use Rattle.tables.specs.Parts.{is_at}
use Rattle.loops.specs.Walking.{Walking}
use Rattle.chains.specs.Hops.{step_by}
use Rattle.chains.proofs.reached.Given as goal

abbrev pub invariant-loop : goal.invariant-loop
invariant-loop l = Walking (is_at l.to.owner l.to.entry) (step_by eight l.hops) 128 l.counter l.at (walk_meets (is_at l.to.owner l.to.entry) (step_by eight l.hops) 128 l.initial.at)
