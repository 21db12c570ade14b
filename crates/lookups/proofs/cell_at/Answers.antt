-- `lookups::cell_at` meets its contract: what is read in the row is the cell. Assumes nothing.
use Rattle.std.proofs.Common.{◌≡◌, length, rules}
use Rattle.rows.specs.Laws.{cell_read}
use Rattle.tables.specs.Machine.{eight}
use Rattle.lookups.proofs.cell_at.Goals as goal

pub returns : goal.returns
returns c t e =
    let l : length c.args.cells.now ≡ 256 = search rules in
    cell_read eight t c.args.w c.args.c e l c.at.ensures
