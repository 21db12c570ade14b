-- `weights::point_6` meets its contract: a chain over the workers in use. Assumes nothing.
use Rattle.std.proofs.Common.{refl, arith, rules}
use Rattle.std.proofs.lemmas.Iterator.{YieldsList-from_range}
use Rattle.tables.specs.Machine.{eight, tables}
use Rattle.states.specs.Sound.{room_for_booked, point6}
use Rattle.loops.specs.Every.{all_below_n}
use Rattle.weights.proofs.point_6.Goals as goal

pub returns : goal.returns
unfolding point6
returns c =
    let s = tables c.args.s.now in
    all_below_n _ (room_for_booked eight s) s.p c.all.ensures.ran (YieldsList-from_range 0 s.p s.p refl (omega arith)) (λ w b f k. search rules)
