pub mod Bench
pub mod Top
pub mod Told
pub mod Paths
pub mod Process
pub mod Visits
pub mod Answers
pub mod Runs
