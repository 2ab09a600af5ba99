-- Files: what reading one comes to, and what is promised of it.
pub mod Files
pub mod Promises
pub mod Cases
