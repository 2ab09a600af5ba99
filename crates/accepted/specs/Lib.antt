-- What is said of the tables that the reader leaves.
pub mod Tables
