pub mod Waits
pub mod WithTexts
pub use Rattle.et_history.specs.Whole
pub use Rattle.et_history.specs.Settings
pub use Rattle.et_event.specs.Start
pub mod Lifted
pub mod Standing
