-- What is shown of the exported run.
pub mod OneOutcome
