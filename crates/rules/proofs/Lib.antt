-- What is shown of the rules, by what `states` shows of a move.
-- Computed: the order of the refusals, the numbered cases.
pub mod Order
pub mod Cases
-- Every call makes a move that keeps what it must, and every delivery leaves less to be delivered.
pub mod Measure
pub mod Steps
pub mod Local
pub mod Send
pub mod Arrive
pub mod Begun
-- What a call may make of a cell, and what a move keeps of what a live entry leads to.
pub mod Cells
pub mod Context
-- Demand 3, for every machine, and at document 01's sizes.
pub mod Chains
pub mod Payers
pub mod KnownBind
pub mod Whole
pub mod Eight
