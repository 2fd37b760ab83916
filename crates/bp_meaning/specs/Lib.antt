pub mod Membership
pub mod Statements
pub mod After
