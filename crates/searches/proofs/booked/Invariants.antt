-- The loop of `searches::booked`: how far it has come.
use Rattle.loops.specs.Searching.{Counting}
use Rattle.tables.specs.Parts.{goes_to}
use Rattle.tables.specs.Look.{message_at}
use Rattle.searches.proofs.booked.Given as goal

abbrev pub invariant-loop-x : goal.invariant-loop-x
invariant-loop-x l = Counting (λ j. goes_to l.w (message_at l.slots j)) 64 l.x-index l.n
