-- `frames::parse`: the digits before the next say v, and so many digits are below 16 to their number.
use Rattle.frames.proofs.Digits.{Parsing}
use Rattle.frames.proofs.parse.Given as goal

abbrev pub invariant-loop-b : goal.invariant-loop-b
invariant-loop-b l = Parsing l.s l.v l.b-index
