-- What reading meets: the comments that are passed over on the way to a tag, and the tokens that reading comes to.
pub mod Passed
pub mod Met
pub mod Open
pub mod Cases
