-- The text program: what it prints for a text, and into which buffer.
pub mod Text
pub mod Room
