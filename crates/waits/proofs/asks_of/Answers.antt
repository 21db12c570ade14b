-- `waits::asks_of` meets its contract: a count over the slots. Assumes nothing.
use Rattle.std.proofs.Common.{◌≡◌, ◌∙◌, rules}
use Rattle.std.specs.List.{count_by}
use Rattle.tables.specs.declared.Slot.{Slot}
use Rattle.states.specs.Sound.{asks_for, asks_of}
use Rattle.loops.specs.Chains.{counted}
use Rattle.waits.proofs.asks_of.Goals as goal

pub returns : goal.returns
unfolding asks_of
returns c =
    let n : c.count.result ≡ count_by (λ (x : Slot). asks_for c.args.w c.args.c x.message) c.args.s.now.slots = search rules in
    n ∙ counted _ _
