-- The laws of Telepathy's type definitions.
pub mod Sorts
pub mod Counting
pub mod Bodies
pub mod Judgement
