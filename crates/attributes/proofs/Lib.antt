-- The laws on attributes.
pub mod Found
pub mod Keys
pub mod First
pub mod Shown
pub mod Checking
pub mod Picked
pub mod Gathering
pub mod Classes
pub mod Starting
pub mod Slots
pub mod Marking
