pub mod Begins
pub mod Joined
pub mod Crosses
