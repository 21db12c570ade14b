-- `searches::free_cells` meets its contract: a count over a row of cells. Assumes nothing.
use Rattle.std.proofs.Common.{◌≡◌, length, rules}
use Rattle.tables.specs.Machine.{eight}
use Rattle.tables.specs.Parts.{is_free}
use Rattle.tables.specs.Look.{free_cells}
use Rattle.rows.specs.Found.{cells_counted}
use Rattle.searches.proofs.free_cells.Goals as goal

pub returns : goal.returns
unfolding free_cells
returns c t e =
    let l : length c.args.cells.now ≡ 256 = search rules in
    cells_counted eight t c.args.w is_free e l (c.count.ensures (λ x. is_free x.kind) (λ x b p. search rules))
