-- What is shown of the calls together.
pub mod OneOutcome
pub mod Promise
