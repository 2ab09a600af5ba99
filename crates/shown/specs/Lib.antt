-- What the tests on the text that a value shows say.
pub mod Outcome
