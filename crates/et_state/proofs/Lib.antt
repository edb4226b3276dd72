mod Stacks
mod Runs
pub mod Strings
pub mod Places
pub mod UnderWay
pub mod Calls
pub mod Wholes
pub mod Pasts
pub mod Flushes
pub mod Enqueued
pub mod Steps
mod ClassStates
pub mod Unended
pub mod Interned
pub mod Numbered
