-- The laws of interfaces.
pub mod Interfaces
