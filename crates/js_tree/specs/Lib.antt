pub mod Plain
pub mod Views
pub mod Nesting
pub mod Endings
