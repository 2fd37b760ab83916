pub mod Turning
pub mod Settled
