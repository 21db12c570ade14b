-- Laws that belong to no one function, and document 01's examples.
pub mod Digits
pub mod Lines
pub mod Written
pub mod Examples
