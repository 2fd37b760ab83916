pub mod Answers
pub mod EmptySets
pub mod Blocks
pub mod Tallies
pub mod Benches
pub mod inner
