pub mod Copying
pub mod Whole
pub mod Ends
pub mod LogsMigrate
pub mod Copied
