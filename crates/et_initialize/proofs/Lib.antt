mod Strings
pub mod Setting
mod Running
pub mod Legal
pub mod Records
pub mod Counting
pub mod Beginning
pub mod Preparing
pub mod Stepping
pub mod Turning
pub mod Statics
pub mod Needing
