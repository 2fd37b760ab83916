pub mod Pieces
pub mod Digits
pub mod Tokens
pub mod Names
pub mod Accepted
