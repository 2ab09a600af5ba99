-- What the functions that scan rows and write items say.
pub mod Rows
pub mod Writes
pub mod Entry
pub mod Several
