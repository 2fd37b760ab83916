-- What the contracts inside of this crate cite, and nothing that a command is promised by.
pub mod TablesOf
pub mod Emits
pub mod Starts
pub mod Parts
pub mod Tables
