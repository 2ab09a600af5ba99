-- Laws of docstrings.
pub mod Shifts
pub mod Ends
pub mod Atoms
pub mod Pieces
pub mod Finding
pub mod Whole
