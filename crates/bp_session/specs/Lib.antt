pub mod Merges
pub mod Heard
pub mod Reports
pub mod inner
