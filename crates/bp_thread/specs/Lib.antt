pub mod Shared
pub mod Parts
pub mod Views
pub mod Kept
pub mod Pauses
pub mod Jobs
pub mod Carried
