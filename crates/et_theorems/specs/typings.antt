pub mod Values
pub mod Refused
pub mod Typed
