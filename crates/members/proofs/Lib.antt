-- The laws of the members of an interface.
pub mod Members
