-- The whole tree of a row: its shape, what its elements show, its bytes, and what writing it answers.
pub mod Trees
pub mod Shape
pub mod Written
pub mod Writing
pub mod Steps
pub mod Walk
pub mod Cases
