-- The laws of loops: searches and counts, tables that are filled, tests of each number, walks and sums. No word of the protocol.
pub mod Chains
pub mod Searching
pub mod Filling
pub mod Passing
pub mod Walking
pub mod Summing
pub mod Every
