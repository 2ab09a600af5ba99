-- The kinds of names, and what the functions on tags say.
pub mod Kinds
pub mod Outcome
