pub mod Places
pub mod Once
pub mod Programs
pub mod Refused
pub mod Either
