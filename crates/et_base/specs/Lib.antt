pub mod Integers
pub mod Numbers
pub mod Steps
pub mod Marks
pub mod Digits
