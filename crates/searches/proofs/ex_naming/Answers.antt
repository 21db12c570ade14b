-- `searches::ex_naming` meets its contract: a search of a row of cells by a test of what they hold. Assumes nothing.
use Rattle.std.proofs.Common.{◌≡◌, length, rules}
use Rattle.tables.specs.Machine.{eight}
use Rattle.tables.specs.Parts.{ex_names}
use Rattle.tables.specs.Look.{ex_naming}
use Rattle.rows.specs.Found.{cells_lowest}
use Rattle.searches.proofs.ex_naming.Goals as goal

pub returns : goal.returns
unfolding ex_naming
returns c t h =
    let o = c.args.o in
    let e = c.args.e in
    let l : length c.args.cells.now ≡ 256 = search rules in
    cells_lowest eight t c.args.w (ex_names o e) h l (c.lowest.ensures (λ x. ex_names o e x.kind) (λ x b p. search rules))
