pub mod Variables
pub mod Pieces
pub mod NodeForms
pub mod Nodes
pub mod Resolved
pub mod Spelled
pub mod Laws
pub mod inner
