pub mod Generations
pub mod Marking
pub mod Places
pub mod Spaces
pub mod Tables
