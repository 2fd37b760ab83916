pub mod Knowing
pub mod Sameness
