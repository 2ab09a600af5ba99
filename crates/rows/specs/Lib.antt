-- What the functions say that fill the tables.
pub mod Outcome
