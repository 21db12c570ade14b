-- What the exported function answers.
pub mod Answer
