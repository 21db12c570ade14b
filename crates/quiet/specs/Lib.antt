-- The verdict on the lines of the table of refusal numbers, which the calls pass on.
pub mod Verdicts
