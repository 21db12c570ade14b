-- `names::exes_naming` meets its contract: a count over a row of cells. Assumes nothing.
use Rattle.std.proofs.Common.{◌≡◌, length, refl, rules}
use Rattle.tables.specs.Machine.{eight, tables}
use Rattle.tables.specs.Parts.{ex_names}
use Rattle.rows.specs.Found.{cells_counted}
use Rattle.states.specs.Sound.{exes_naming}
use Rattle.names.proofs.exes_naming.Goals as goal

pub returns : goal.returns
unfolding exes_naming
returns c =
    let l : length c.args.s.now.cells ≡ 256 = search rules in
    let counts = c.count.ensures (λ x. ex_names c.args.o c.args.e x.kind) (λ x b p. search rules) in
    cells_counted eight (tables c.args.s.now) c.args.w (ex_names c.args.o c.args.e) refl l counts
