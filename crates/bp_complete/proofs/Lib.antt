pub mod Kept
pub mod Bringing
pub mod Completing
mod Rows
