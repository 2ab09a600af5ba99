-- The laws on documents in UTF-16.
pub mod Units
pub mod Limits
pub mod Decoding
pub mod Formed
pub mod Answers
