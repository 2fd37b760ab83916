pub use Rattle.js_data.specs.Whole
pub use Rattle.js_data.specs.Data
pub use Rattle.js_data.specs.Event
pub use Rattle.js_data.specs.JsonText
pub use Rattle.js_data.specs.Views
pub mod Json
pub mod inner
