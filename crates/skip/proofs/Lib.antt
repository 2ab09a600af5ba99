-- The laws of passing over elements, and of docstrings.
pub mod Passing
pub mod Skipped
pub mod Captured
