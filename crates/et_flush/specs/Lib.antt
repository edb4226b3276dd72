pub mod Ranks
pub mod Searches
pub mod Reaches
pub mod Sweeps
pub mod Works
pub mod Rooms
pub mod Flushes
