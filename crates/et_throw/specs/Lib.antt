pub mod Unwinding
pub mod Leaving
