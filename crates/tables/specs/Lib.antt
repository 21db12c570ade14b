-- The state as document 01 has it: the tables and their sizes, and the tests and changes of one part.
pub mod Machine
pub mod Parts
pub mod Look
pub mod Laws
