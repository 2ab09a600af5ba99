-- The laws of counting, of adding, of names, of lines and of files.
pub mod Counting
pub mod Adding
pub mod Naming
pub mod Lining
pub mod Filing
pub mod Theorems
