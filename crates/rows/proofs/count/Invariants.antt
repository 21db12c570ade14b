-- The loop of `rows::count`: how far it has come, for any test that is the closure's.
use Rattle.std.specs.Prelude.{◌≡◌, ◌≤◌, Bool}
use Rattle.loops.specs.Searching.{Counting}
use Rattle.rows.specs.Rows.{row_at}
use Rattle.rows.proofs.count.Given as goal

abbrev pub invariant-loop-k : goal.invariant-loop-k
invariant-loop-k g l =
    goal.F-IsAlwaysCallable g l.counted
    × (l.n ≤ l.k)
    × ((q : _ → Bool) → ((x : _) (b : Bool) → goal.F-post g l.counted x b → b ≡ q x)
    → Counting (λ j. q (row_at g.T.Part.WIDTH g.T.Part.free l.table l.w j)) g.T.Part.WIDTH l.k l.n)
