pub mod Entries
pub mod Members
pub mod Resolution
pub mod Referring
pub mod Resolved
pub mod Shapes
pub mod Signatures
pub mod BuiltIns
pub mod Types
pub mod Words
pub mod Shown
pub mod Tables
pub mod Counted
pub mod Parts
pub mod Finding
pub mod Indices
pub mod Order
pub mod Loaded
pub mod Files
pub mod MembersOf
pub mod Slots
pub mod Heads
pub mod ArrayTypes
pub mod Classes
pub mod ProgramOf
pub mod LinkFaults
pub mod Linking
pub use Rattle.et_boot.specs.Classes as BootClasses
pub use Rattle.et_boot.specs.Names as BootNames
pub use Rattle.et_boot.specs.declared.built_ins as BootMethods
pub use Rattle.et_boot.specs.declared.names as BootNamed
pub use Rattle.et_boot.specs.BuiltIns as BootTable
pub use Rattle.et_boot.specs.declared.text_methods as BootTexts
