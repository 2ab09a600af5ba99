-- The laws of scanning rows and writing items.
pub mod Scans
pub mod Rows
pub mod Appending
pub mod Texts
pub mod Args
pub mod Members
pub mod Entry
pub mod Several
