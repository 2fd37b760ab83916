pub mod Places
pub mod Frames
pub mod Fits
pub mod inner
pub mod Runs
