pub mod Begun
pub mod Leads
pub mod Merges
pub mod Slices
pub mod Handing
pub mod Legal
pub mod Playing
