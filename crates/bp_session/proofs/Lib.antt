pub mod Faultless
pub mod Back
pub mod Enters
mod Rows
pub mod Readings
pub mod Served
pub mod Picked
pub mod Waits
pub mod Tells
pub mod Reports
pub mod Hears
pub mod Rounds
pub mod Ends
pub mod Turns
pub mod Begins
pub mod Causes
pub mod Each
