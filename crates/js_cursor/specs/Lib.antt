pub mod Passed
pub mod Read
