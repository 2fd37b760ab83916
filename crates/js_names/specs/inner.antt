-- What the contracts inside of this crate cite, and nothing that a command is promised by.
pub mod Breaches
pub mod Walks
pub mod TreeMentions
