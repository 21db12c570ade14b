-- The loop of `weights::total`: how far it has come, for any weight that is the closure's.
use Rattle.std.proofs.Common.{◌≡◌, ℕ, ◌*◌, ◌≤◌, take}
use Rattle.std.specs.Fn.{FnReturnsAt}
use Rattle.std.specs.List.{sum_by}
use Rattle.weights.proofs.total.Given as goal

abbrev pub invariant-loop-x : goal.invariant-loop-x
invariant-loop-x g l =
    goal.F-IsAlwaysCallable g l.weight
    × (l.sum ≤ l.x-index * 4294967295)
    × ((h : _ → ℕ) → ((x : _) (n : ℕ) → FnReturnsAt g.F.Fn l.weight x n → n ≡ h x) → l.sum ≡ sum_by h (take l.x-index l.table))
