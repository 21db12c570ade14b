-- The loop of `rows::lowest`: how far it has come, for any test that is the closure's.
use Rattle.std.specs.Prelude.{◌≡◌, Bool}
use Rattle.numbers.specs.Below.{lowest}
use Rattle.loops.specs.Searching.{Seeking}
use Rattle.rows.specs.Rows.{row_at}
use Rattle.rows.proofs.lowest.Given as goal

abbrev pub invariant-loop-i : goal.invariant-loop-i
invariant-loop-i g l =
    goal.F-IsAlwaysCallable g l.sought
    × ((q : _ → Bool) → ((x : _) (b : Bool) → goal.F-post g l.sought x b → b ≡ q x)
    → Seeking (λ j. q (row_at g.T.Part.WIDTH g.T.Part.free l.table l.w j)) g.T.Part.WIDTH l.i (lowest g.T.Part.WIDTH (λ j. q (row_at g.T.Part.WIDTH g.T.Part.free l.table l.w j))))
