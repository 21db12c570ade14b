-- `names::point_3` meets its contract: a chain over all entries. Assumes nothing.
use Rattle.std.proofs.Common.{◌/◌, ◌%◌, rules}
use Rattle.std.proofs.lemmas.Iterator.{YieldsList-from_slice}
use Rattle.std.proofs.lemmas.Iterator.Consumers.{YieldsList-from_enumerate}
use Rattle.tables.specs.Machine.{eight, tables}
use Rattle.states.specs.Sound.{entry_names_cell, point3}
use Rattle.loops.specs.Every.{all_placed}
use Rattle.names.proofs.point_3.Goals as goal

pub returns : goal.returns
unfolding point3
returns c =
    let s = tables c.args.s.now in
    all_placed _ (λ i x. entry_names_cell eight s (i / 16) (i % 16) x.holding) s.entries c.all.ensures.ran
    (YieldsList-from_enumerate (YieldsList-from_slice s.entries cc) cc)
    (λ x b f k. search rules)
