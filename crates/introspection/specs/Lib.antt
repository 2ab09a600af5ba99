-- The answer words of the functions for C.
pub mod Words
