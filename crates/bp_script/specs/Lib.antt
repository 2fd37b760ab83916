pub mod Refusals
pub mod Programs
pub mod Faults
pub mod Laws
