pub mod Conversions
pub mod Rewriting
pub mod Spellings
