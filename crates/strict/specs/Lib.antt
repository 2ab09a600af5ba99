-- The strict profile: what reading by it comes to, and what is promised of it.
pub mod Strict
pub mod Entry
pub mod Promises
pub mod Cases
