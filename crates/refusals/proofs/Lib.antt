-- Every refusal and every warning of the reader has a message.
pub mod Telling
pub mod Standing
pub mod States
pub mod Whole
pub mod Files
