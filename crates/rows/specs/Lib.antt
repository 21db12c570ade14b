-- What stands in a table of rows, and the table with one place changed.
pub mod Rows
pub mod Laws
pub mod Found
