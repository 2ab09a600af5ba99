-- Messages: their texts, and the message of a refusal or a warning.
pub mod Texts
pub mod Message
pub mod Steps
pub mod Cases
