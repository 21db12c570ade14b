-- `waits::messages_have_theirs` meets its contract: a chain over all slots. Assumes nothing.
use Rattle.std.proofs.Common.{rules}
use Rattle.std.proofs.lemmas.Iterator.{YieldsList-from_slice}
use Rattle.tables.specs.Machine.{eight, tables}
use Rattle.states.specs.Sound.{message_has_its}
use Rattle.loops.specs.Every.{all_each}
use Rattle.waits.proofs.messages_have_theirs.Goals as goal

pub returns : goal.returns
returns c =
    let s = tables c.args.s.now in
    all_each _ (λ x. message_has_its eight s x.message) s.slots c.all.ensures.ran (YieldsList-from_slice s.slots cc) (λ x b f k. search (rules, c.hops_of-hops.ensures))
