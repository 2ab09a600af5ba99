-- What the check of sound rows says.
pub mod Outcome
