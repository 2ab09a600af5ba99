-- What is said of every document and of every file.
pub mod Bounds
pub mod Files
