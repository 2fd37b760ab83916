pub use Rattle.bp_log.specs.Options
pub use Rattle.bp_reading.specs.Words
pub mod Keys
pub mod Verbs
pub mod Said
pub mod Command
pub mod inner
