-- `rows::lowest` meets its contract: a search by a closure that computes q. Assumes nothing.
use Rattle.std.proofs.Common.{◌<◌, ◌≤◌, rules}
use Rattle.loops.specs.Searching.{seek_start, seek_hit, seek_pass, seek_end}
use Rattle.rows.proofs.lowest.Goals as goal

pub loop-i-init : goal.loop-i-init
loop-i-init g c = (search rules, λ q h. seek_start _ _)

pub returns-then-sought : goal.returns-then-sought
returns-then-sought g c q h =
    let l : c.loop-i.i < g.T.Part.WIDTH = search rules in
    seek_hit (c.loop-i.invariant.1 q h) l (rw c.at.ensures at (h _ _ c.sought.ensures)) c.if-sought.true

pub loop-i-preserved : goal.loop-i-preserved
loop-i-preserved g c =
    let l : c.loop-i.i < g.T.Part.WIDTH = search rules in
    (search rules, λ q h. seek_pass (c.loop-i.invariant.1 q h) l (rw c.at.ensures at (h _ _ c.sought.ensures)) c.if-sought.false)

pub returns : goal.returns
returns g c q h =
    let l : g.T.Part.WIDTH ≤ c.loop-i.i = search rules in
    rw c.WIDTH.ensures (seek_end (c.loop-i.invariant.1 q h) l)
