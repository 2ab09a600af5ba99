-- The laws of the answer words.
pub mod Answers
