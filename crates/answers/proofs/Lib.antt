-- The laws on texts put into a lent buffer.
pub mod Putting
pub mod Answers
