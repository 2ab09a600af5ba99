-- What reading a docstring's content says.
pub mod Outcome
