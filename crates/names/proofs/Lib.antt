-- The laws on names and signatures.
pub mod Codes
pub mod Names
pub mod Checks
pub mod Spelled
pub mod Grammar
pub mod Bytes
