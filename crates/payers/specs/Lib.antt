-- The tables of ways on from each cell, and that the walk by them finds who pays.
pub mod Ways
