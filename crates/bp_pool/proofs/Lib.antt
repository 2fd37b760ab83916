pub mod Going
pub mod Places
pub mod Writes
pub mod Crossings
pub mod Steps
pub mod Moves
pub mod Finished
pub mod Rules
