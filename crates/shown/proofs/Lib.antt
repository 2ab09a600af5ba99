-- The laws of tests on the text that a value shows.
pub mod Tests
