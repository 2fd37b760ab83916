pub mod Gathered
pub mod Remains
pub mod TopLemmas
pub mod Entered
pub mod Firsts
pub mod Putting
pub mod Leaving
pub mod Numbered
