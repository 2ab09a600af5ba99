-- What is said of the docstrings of the tables that the reader leaves.
pub mod Passable
