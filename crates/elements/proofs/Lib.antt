-- The laws of the rows of elements.
pub mod Rows
