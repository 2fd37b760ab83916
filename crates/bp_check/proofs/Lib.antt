pub mod Marking
mod Names
mod Rows
mod SentenceRows
pub mod Telling
