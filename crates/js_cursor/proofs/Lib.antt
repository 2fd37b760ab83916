pub mod Using
pub mod Loops
