-- That no weight is lost where the state is sound, and the sum that `bound` runs.
pub mod BelowCeiling
pub mod Costs
