-- Names and signatures, by the D-Bus Specification.
pub mod Names
pub mod Types
pub mod Signature
pub mod Grammar
pub mod Checks
pub mod Cases
