-- A cell with its end.
pub mod Seen
