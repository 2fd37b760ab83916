pub mod Turns
pub mod Injectors
