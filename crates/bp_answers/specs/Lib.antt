pub mod Faults
pub mod Reading
pub mod Walking
pub mod Asking
pub mod Whys
pub mod Laws
pub mod inner
