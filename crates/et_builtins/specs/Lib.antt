pub mod Arguments
pub mod Kinds
pub mod Types
pub mod Plans
pub mod Classes
pub mod Calling
