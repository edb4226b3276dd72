pub mod Classes
pub mod Shown
pub mod Facts
pub mod Pools
pub mod TextMethods
pub mod BuiltIns
pub mod Names
