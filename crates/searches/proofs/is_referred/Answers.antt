-- `searches::is_referred` meets its contract: some cell of the worker is a REF to it. Assumes nothing.
use Rattle.std.proofs.Common.{◌≡◌, length, rules}
use Rattle.tables.specs.Machine.{eight}
use Rattle.tables.specs.Parts.{ref_names}
use Rattle.tables.specs.Look.{referred}
use Rattle.rows.specs.Found.{cells_lowest}
use Rattle.searches.proofs.is_referred.Goals as goal

pub returns : goal.returns
unfolding referred
returns c t e =
    let d = c.args.c in
    let l : length c.args.cells.now ≡ 256 = search rules in
    rw (cells_lowest eight t c.args.w (ref_names d) e l (c.lowest.ensures (λ x. ref_names d x.kind) (λ x b p. search rules)))
