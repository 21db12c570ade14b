-- `lookups::entry_at` meets its contract: what is read in the row is the entry. Assumes nothing.
use Rattle.std.proofs.Common.{◌≡◌, length, rules}
use Rattle.rows.specs.Laws.{entry_read}
use Rattle.tables.specs.Machine.{eight}
use Rattle.lookups.proofs.entry_at.Goals as goal

pub returns : goal.returns
returns c t e =
    let l : length c.args.entries.now ≡ 128 = search rules in
    entry_read eight t c.args.w c.args.e e l c.at.ensures
