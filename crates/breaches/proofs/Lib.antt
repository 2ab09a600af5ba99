-- The laws that the proofs cite.
pub mod Order
pub mod Faults
pub mod Comments
pub mod Names
pub mod Passing
pub mod Collecting
pub mod Tagged
pub mod Walking
pub mod Whole
