-- Attribute values: escaping, what a raw value shows, and the two entries.
pub mod Characters
pub mod Escape
pub mod Unescape
pub mod Digits
pub mod Normal
pub mod Joining
pub mod Outcome
pub mod Entries
pub mod RoundTrip
pub mod Admission
pub mod Cases
