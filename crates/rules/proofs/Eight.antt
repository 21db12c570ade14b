-- Demand 3 at document 01's sizes and weights: the conclusion to cite. Assumes nothing.
use native.Mathlib.Omega.{arith}
use Rattle.tables.specs.Machine.{eight}
use Rattle.states.specs.Machines.{Laws}
use Rattle.rules.specs.Statements.{CallsKeepSound, Demand3}
use Rattle.rules.proofs.Whole.{calls_keep_sound, demand_3}

pub eight_laws : Laws eight
eight_laws =
    record {
      workers_some = omega arith;
      cells_some = omega arith;
      entries_some = omega arith;
      slots_some = omega arith;
      first_some = omega arith;
      split_some = λ n h. omega arith;
      split_less = λ n h. omega arith;
    }

pub demand_3_of_eight : Demand3 eight
demand_3_of_eight = demand_3 eight eight_laws

pub calls_keep_sound_of_eight : CallsKeepSound eight
calls_keep_sound_of_eight = calls_keep_sound eight eight_laws
