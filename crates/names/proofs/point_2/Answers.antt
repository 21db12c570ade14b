-- `names::point_2` meets its contract: a chain over all cells. Assumes nothing.
use Rattle.std.proofs.Common.{◌/◌, ◌%◌, rules}
use Rattle.std.proofs.lemmas.Iterator.{YieldsList-from_slice}
use Rattle.std.proofs.lemmas.Iterator.Consumers.{YieldsList-from_enumerate}
use Rattle.tables.specs.Machine.{eight, tables}
use Rattle.states.specs.Sound.{cell_names, point2}
use Rattle.loops.specs.Every.{all_placed}
use Rattle.names.proofs.point_2.Goals as goal

pub returns : goal.returns
unfolding point2
returns c =
    let s = tables c.args.s.now in
    all_placed _ (λ i x. cell_names eight s (i / 32) (i % 32) x.kind) s.cells c.all.ensures.ran
    (YieldsList-from_enumerate (YieldsList-from_slice s.cells cc) cc)
    (λ x b f k. search rules)
