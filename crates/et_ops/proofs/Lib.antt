pub mod InFrame
mod Groups
mod Storing
mod Switching
mod Texts
mod Ending
pub mod Stepping
pub mod Lifting
