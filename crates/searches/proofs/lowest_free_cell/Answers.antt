-- `searches::lowest_free_cell` meets its contract: a search of a row of cells by a test of what they hold. Assumes nothing.
use Rattle.std.proofs.Common.{◌≡◌, length, rules}
use Rattle.tables.specs.Machine.{eight}
use Rattle.tables.specs.Parts.{is_free}
use Rattle.tables.specs.Look.{lowest_free_cell}
use Rattle.rows.specs.Found.{cells_lowest}
use Rattle.searches.proofs.lowest_free_cell.Goals as goal

pub returns : goal.returns
unfolding lowest_free_cell
returns c t e =
    let l : length c.args.cells.now ≡ 256 = search rules in
    cells_lowest eight t c.args.w is_free e l (c.lowest.ensures (λ x. is_free x.kind) (λ x b p. search rules))
