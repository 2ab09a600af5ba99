-- Sound rows, the content of an item, its bytes, and what the writers answer.
pub mod Words
pub mod Order
pub mod View
pub mod Sound
pub mod Written
pub mod Content
pub mod Writing
pub mod Several
pub mod Cases
