pub mod Moments
pub mod Cores
