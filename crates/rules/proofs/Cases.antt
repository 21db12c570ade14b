-- The numbered cases, the printed run, the wrong turnings, the callers and the known EX, computed of the rules themselves, the soundness test of every
-- call run with them. Assumes nothing.
use mathlib.Core.Path.{◌≡◌, refl}
use mathlib.Core.Bool.{true}
use mathlib.Core.List.{[], ◌∷◌}
use Rattle.rules.specs.Cases.{hold, numbered_cases, wrong_turnings, callers, known_bind, whole_run}

-- K1 to K10, the whole table
pub numbered_cases_lem : hold numbered_cases ≡ true
unfolding hold
numbered_cases_lem = refl

-- the run printed in document 01, frame by frame
pub whole_run_lem : hold (whole_run ∷ []) ≡ true
unfolding hold
whole_run_lem = refl

pub wrong_turnings_lem : hold wrong_turnings ≡ true
unfolding hold
wrong_turnings_lem = refl

pub callers_carried : hold (callers ∷ []) ≡ true
unfolding hold
callers_carried = refl

pub bound_when_known : hold (known_bind ∷ []) ≡ true
unfolding hold
bound_when_known = refl
