pub mod Turning
pub mod Handling
pub mod Caught
pub mod Dropped
pub mod Failed
pub mod Turns
pub mod Thrown
