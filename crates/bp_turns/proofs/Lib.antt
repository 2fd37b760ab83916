pub mod Slices
pub mod Carriers
pub mod Measure
pub mod Verdicts
pub mod Arbiters
pub mod Turned
pub mod Settled
