pub mod Replays
pub mod Laws
pub mod inner
pub mod Faults
pub mod Courses
pub mod Endings
pub mod Following
pub mod Notes
