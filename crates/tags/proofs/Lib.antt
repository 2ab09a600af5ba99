-- The laws of kinds, faults, tags, tokens and steps.
pub mod Kind
pub mod Faults
pub mod Parts
pub mod Startings
pub mod Nexts
pub mod Stepping
