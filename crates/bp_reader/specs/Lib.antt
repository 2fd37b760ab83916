pub use Rattle.bp_reading.specs.Reading
pub use Rattle.bp_reading.specs.Words
pub use Rattle.bp_reading.specs.Lines
pub use Rattle.bp_base.specs.Pieces
pub mod Fed
pub mod Gets
pub mod Reads
pub mod inner
