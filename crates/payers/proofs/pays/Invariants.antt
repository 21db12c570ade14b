-- The loop of `payers::pays`: how far it has come.
use Rattle.payers.specs.Ways.{pays_by, Following}
use Rattle.payers.proofs.pays.Given as goal

abbrev pub invariant-loop : goal.invariant-loop
invariant-loop l = Following l.ways l.n l.counter l.at (pays_by l.ways l.n l.fn.from)
