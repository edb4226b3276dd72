pub mod Types
pub mod Stores
pub mod Locals
pub mod Flows
pub mod Searching
pub mod Slots
