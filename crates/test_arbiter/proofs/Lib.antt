pub mod Turning
pub mod Worked
