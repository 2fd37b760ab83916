pub use Rattle.js_data.specs.JsonText
pub use Rattle.js_json.specs.Json
pub use Rattle.bp_log.specs.Logs
pub mod Words
pub mod Lines
pub mod Heads
pub mod Reading
pub mod Laws
