-- `waits::reads_of` meets its contract: a count over the slots. Assumes nothing.
use Rattle.std.proofs.Common.{◌≡◌, ◌∙◌, rules}
use Rattle.std.specs.List.{count_by}
use Rattle.tables.specs.declared.Slot.{Slot}
use Rattle.states.specs.Sound.{reads_for, reads_of}
use Rattle.loops.specs.Chains.{counted}
use Rattle.waits.proofs.reads_of.Goals as goal

pub returns : goal.returns
unfolding reads_of
returns c =
    let n : c.count.result ≡ count_by (λ (x : Slot). reads_for c.args.w c.args.c x.message) c.args.s.now.slots = search rules in
    n ∙ counted _ _
