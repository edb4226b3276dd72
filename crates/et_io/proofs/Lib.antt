pub mod Counting
pub mod Gathered
pub mod Storing
pub mod Taking
