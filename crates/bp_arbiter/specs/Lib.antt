pub mod Calls
pub mod Arbiters
pub mod Sound
pub mod Runs
pub mod Absorb
pub mod Pick
pub mod Lend
pub mod Seal
