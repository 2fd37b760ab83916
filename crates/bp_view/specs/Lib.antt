pub mod Growing
pub mod Ends
pub mod Lines
pub mod Sinks
pub mod Watching
pub mod Views
pub mod inner
