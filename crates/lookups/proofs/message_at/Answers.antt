-- `lookups::message_at` meets its contract: what is read in the row is the message. Assumes nothing.
use Rattle.std.proofs.Common.{◌≡◌, length, rules}
use Rattle.rows.specs.Laws.{slot_read}
use Rattle.tables.specs.Machine.{eight}
use Rattle.lookups.proofs.message_at.Goals as goal

pub returns : goal.returns
returns c t e =
    let l : length c.args.slots.now ≡ 64 = search rules in
    slot_read eight t c.args.k e l c.at.ensures
