-- What the functions say that put the rows of elements.
pub mod Outcome
