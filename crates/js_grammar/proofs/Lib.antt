pub mod Marks
pub mod Steps
pub mod Shorter
pub mod Sound
pub mod Complete
pub mod Unique
