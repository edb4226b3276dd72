pub mod Forms
pub mod Decoding
pub mod Switches
pub mod Bodies
pub mod Starts
pub mod Rules
pub mod Kept
