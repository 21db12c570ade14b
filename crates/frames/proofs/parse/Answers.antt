-- `frames::parse` meets its contract: one digit more was read.
use Rattle.std.proofs.Common.{sym, ◌∙◌}
use Rattle.frames.proofs.Digits.{parse_more}
use Rattle.frames.proofs.parse.Goals as goal

pub loop-b-preserved : goal.loop-b-preserved
loop-b-preserved c = rw c.from.ensures (parse_more c.loop-b.invariant c.loop-b-test.true (sym (c.in_ok-d.was) ∙ c.digit_in.ensures))
