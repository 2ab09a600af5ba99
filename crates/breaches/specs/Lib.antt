-- The breaches of the strict profile, the least of them, and what the functions that look for them say.
pub mod Least
pub mod Breaches
pub mod Outcome
pub mod Cases
