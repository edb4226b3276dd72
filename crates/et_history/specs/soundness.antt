pub mod WellFormed
pub mod Outcomes
pub mod Methods
pub mod Places
