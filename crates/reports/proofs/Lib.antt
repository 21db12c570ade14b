-- Laws that belong to no one function: signed sums, and the books. Then what is shown of the report.
pub mod Sizes
pub mod Laws
pub mod Shown
pub mod OneOutcome
