-- What is shown of sound states, and of a move from one state to the next.
-- The soundness test holds exactly where the facts of a sound state do; the walk of a Read misses no entry.
pub mod Inside
pub mod Named
pub mod Busy
pub mod Derived
pub mod Walks
pub mod Reach
pub mod FromTest
pub mod ToTest
-- A move that keeps what it must keeps the facts, the chains, what is known and the rank.
pub mod Stored
pub mod Next
pub mod Kept
pub mod Ends
pub mod Onward
pub mod Carried
pub mod Rank
pub mod Stays
pub mod Count
-- The moves that a call makes, and what becomes of an entry.
pub mod Moves
pub mod Entries
