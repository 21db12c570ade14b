-- The laws of the run's loop, and that the run has one outcome.
pub mod Laws
pub mod OneOutcome
