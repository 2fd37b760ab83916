pub mod Merging
pub mod Places
pub mod Runs
pub mod Sweeping
pub mod Told
pub mod AddingUp
