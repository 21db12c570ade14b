-- Searching, counting and summing over numbers and lists: definitions and laws. No word of the protocol.
pub mod Below
pub mod Lists
pub mod Tests
pub mod BelowLaws
pub mod ListLaws
pub mod Grid
pub mod Pigeon
