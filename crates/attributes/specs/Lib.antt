-- What the functions on attributes say.
pub mod One
pub mod Lookup
pub mod Outcome
pub mod Slots
pub mod Twins
