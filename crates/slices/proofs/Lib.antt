-- The laws on lists of bytes.
pub mod Runs
pub mod Ends
pub mod Skips
pub mod Words
pub mod Hashing
