-- The points, tested one after another.
pub mod InTurn
pub mod Points
