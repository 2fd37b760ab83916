pub mod Cuts
pub mod Behind
pub mod Within
pub mod Going
pub mod Taking
mod Rows
