pub mod Build
mod Examples
pub mod Stacks
pub mod Taking
pub mod Making
pub mod HeldLemmas
pub mod Firsts
pub mod Adding
pub mod Exprs
pub mod Stmts
mod KeptLemmas
mod Homes
