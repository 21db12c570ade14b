-- `frames::Fields::frame` meets its contract: each arm is the line of `by_call` at its number; any other number is 0 or past the table.
use Rattle.std.proofs.Common.{◌≡◌, ◌<◌, sym, arith, None}
use mathlib.Core.Logic.{⊎_elim}
use native.Mathlib.Nat.{eq-zero-or-pos}
use lib.ListN.{get_or-eq_default}
use Rattle.frames.specs.Frames.{by_call}
use Rattle.frames.proofs.Fields.frame.Goals as goal

pub returns-in_default : goal.returns-in_default
unfolding by_call
returns-in_default c =
    let f = c.args.self in
    ⊎_elim
    (λ (z : f.call ≡ 0). rw z)
    (λ (p : 0 < f.call). let past : 12 < f.call = omega arith in sym (get_or-eq_default (by_call f) None past))
    (eq-zero-or-pos f.call)
