pub mod Effects
pub mod Steps
pub mod Groups
pub mod Calling
pub mod Leads
pub mod Typings
pub mod Methods
pub mod Verdicts
pub mod Targets
pub mod Simple
pub mod Named
pub use Rattle.et_flow.specs.Types
pub use Rattle.et_flow.specs.Stores
pub use Rattle.et_flow.specs.Flows
pub use Rattle.et_flow.specs.declared.types as EntryTypes
