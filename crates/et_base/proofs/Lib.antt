pub mod Firsts
pub mod Readings
pub mod Spelling
pub mod Lists
pub mod Positions
pub mod Options
pub mod Tests
