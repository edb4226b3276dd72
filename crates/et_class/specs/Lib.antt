pub mod Layout
pub mod Reading
pub mod Along
pub mod Names
pub mod Keys
pub mod Fields
pub mod Codes
pub mod Methods
pub mod Kept
pub mod Spelling
pub mod Rules
pub mod Headers
pub mod Members
pub mod Lifted
pub mod Classes
pub use Rattle.et_pool.specs.Entries
pub use Rattle.et_pool.specs.Looks
pub use Rattle.et_pool.specs.Pools
pub use Rattle.et_pool.specs.Descriptors
pub use Rattle.et_pool.specs.Operands
pub use Rattle.et_pool.specs.declared.operand as PoolOperands
pub use Rattle.et_pool.specs.declared.tags as PoolTags
pub use Rattle.et_code.specs.Bodies
pub use Rattle.et_code.specs.Decoding
pub use Rattle.et_code.specs.Starts
pub use Rattle.et_code.specs.declared.instr as Instructions
pub use Rattle.et_code.specs.declared.opcode as Opcodes
