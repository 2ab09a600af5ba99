-- The laws of the loop over children.
pub mod Loop
