pub mod Values
pub mod Records
pub mod Holding
pub mod Changing
pub mod Telling
pub mod Writes
pub mod Steps
pub mod EachEvent
