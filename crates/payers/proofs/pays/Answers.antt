-- `payers::pays` meets its contract: a walk by the table.
use Rattle.std.proofs.Common.{◌∙◌}
use Rattle.payers.specs.Ways.{pays_on, pays_no_further, pays_end}
use Rattle.payers.proofs.pays.Goals as goal
use Rattle.payers.proofs.pays.Goals.{else-loop-test, then-loop-test+in_default}

pub loop-preserved : goal.loop-preserved
loop-preserved c = pays_on c.loop.invariant c.loop-test.true (rw c.way_at.ensures at c.in-LeadsTo.is)

pub returns : goal.returns
returns c =
    elim c.loop-test.branch [
      | else-loop-test w ↦ c.payer_of.ensures ∙ rw c.way_at-2.ensures (pays_end c.loop.invariant w.loop-test.false)
      | then-loop-test+in_default w ↦
          let ended = rw w.way_at.ensures at w.in_default.not-LeadsTo in
          c.payer_of.ensures ∙ rw c.way_at-2.ensures (pays_no_further c.loop.invariant w.loop-test.true ended)
    ]
