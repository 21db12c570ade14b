-- `ranges::messages_in_range` meets its contract: a chain over all slots. Assumes nothing.
use Rattle.std.proofs.Common.{rules}
use Rattle.std.proofs.lemmas.Iterator.{YieldsList-from_slice}
use Rattle.tables.specs.Machine.{eight, tables}
use Rattle.states.specs.Sound.{message_in_range}
use Rattle.loops.specs.Every.{all_each}
use Rattle.ranges.proofs.messages_in_range.Goals as goal

pub returns : goal.returns
returns c =
    let s = tables c.args.s.now in
    all_each _ (λ x. message_in_range eight s x.message) s.slots c.all.ensures.ran (YieldsList-from_slice s.slots cc) (λ x b f k. search rules)
