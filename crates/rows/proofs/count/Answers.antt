-- `rows::count` meets its contract: a count by a closure that computes q. Assumes nothing.
use Rattle.std.proofs.Common.{◌<◌, ◌≤◌, rules, arith, ◌∙◌}
use Rattle.loops.specs.Searching.{count_start, count_step, count_end, byte_is_bit, byte_small}
use Rattle.rows.proofs.count.Goals as goal

pub loop-k-init : goal.loop-k-init
loop-k-init g c = (search rules, omega arith, λ q h. count_start _ _)

pub loop-k-preserved : goal.loop-k-preserved
loop-k-preserved g c =
    let l : c.loop-k.k < g.T.Part.WIDTH = search rules in
    let n = c.loop-k.invariant.1 in
    let e = c.from-n.ensures in
    let s = byte_small c.counted.result in
    (search rules, omega arith, λ q h. count_step (c.loop-k.invariant.2 q h) l (rw c.at.ensures at (h _ _ c.counted.ensures)) (e ∙ byte_is_bit c.counted.result))

pub returns : goal.returns
returns g c q h =
    let l : g.T.Part.WIDTH ≤ c.loop-k.k = search rules in
    count_end (c.loop-k.invariant.2 q h) l
