pub mod Standing
mod Changing
mod Queueing
mod Slots
mod Selected
mod Passing
mod Fitting
mod Planning
mod Referred
mod Shaping
mod Choosing
pub mod ByCode
pub mod Deferring
