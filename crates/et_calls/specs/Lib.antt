pub mod Entering
pub mod Returned
pub mod Stages
pub mod Ways
pub mod Fresh
pub mod EntryPlans
pub mod Sizes
pub mod Asked
