-- What a reader finds at its place.
pub mod Read
