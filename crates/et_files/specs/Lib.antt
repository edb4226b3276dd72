pub mod Faults
pub mod Status
pub mod Refusals
pub mod Told
pub mod Loaded
pub mod Following
pub mod Reads
pub mod Answered
