pub mod Counts
pub mod Naming
pub mod Known
pub mod Crossing
pub mod Refusals
pub mod Declaring
pub mod BuiltIn
