pub mod Below
pub mod Joining
pub mod Places
pub mod Rounds
pub mod Follows
pub mod Stores
pub mod Held
pub mod Slots
