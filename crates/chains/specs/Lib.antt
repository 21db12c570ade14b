-- The table of hops along ends and references.
pub mod Hops
