pub mod Found
mod Followed
pub mod FaultLemmas
pub mod ReadLemmas
pub mod LinkLemmas
pub mod Answered
