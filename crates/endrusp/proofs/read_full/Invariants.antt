-- `endrusp::read_full` meets its contract: what was read stands within the buffer.
use Rattle.std.proofs.Common.{◌≤◌, length}
use Rattle.endrusp.proofs.read_full.Given as goal

abbrev pub invariant-loop : goal.invariant-loop
invariant-loop g l = l.n ≤ length l.buffer
