pub mod Listing
mod Rows
pub mod CountLemmas
