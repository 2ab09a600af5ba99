-- Laws of what reading meets.
pub mod Passing
pub mod Reaching
pub mod Counting
