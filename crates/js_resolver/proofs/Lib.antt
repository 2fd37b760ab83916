mod Examples
pub mod Lone
pub mod Naming
pub mod Standing
pub mod Bodies
pub mod Freshness
pub mod Starting
pub mod Emitting
pub mod TreeForms
pub mod Loops
pub mod FormArms
pub mod StmtArms
pub mod FunctionArms
pub mod CallArms
pub mod Parts
pub mod Spelling
pub mod apart
pub mod sound
