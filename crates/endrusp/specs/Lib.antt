-- What the program's own functions say.
pub mod Counts
