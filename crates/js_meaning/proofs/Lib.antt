pub mod Walk
pub mod Later
pub mod Following
pub mod Bound
pub mod Replies
pub mod Small
mod Examples
mod Loops
mod Operators
mod Tops
