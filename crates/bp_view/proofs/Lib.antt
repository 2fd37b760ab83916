pub mod Steps
pub mod Growths
pub mod Looks
pub mod Watches
pub mod Examples
pub mod RunViews
