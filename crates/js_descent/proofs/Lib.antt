pub mod Using
pub mod Chains
pub mod Stated
