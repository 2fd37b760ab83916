pub mod Forms
pub mod Order
pub mod Nodes
pub mod Bodies
pub mod Crosses
