pub use Rattle.bp_reading.specs.Reading
pub use Rattle.bp_base.specs.Pieces
pub mod Copies
pub mod Migrations
pub mod Laws
pub mod inner
