-- Faults: a number and a place.
pub mod Fault
