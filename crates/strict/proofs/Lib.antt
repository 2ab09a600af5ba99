-- The laws that the proofs cite, and the theorems.
pub mod Judging
pub mod Promised
