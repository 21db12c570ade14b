-- What a search and a count find of a worker's cells and entries.
pub mod Laws
