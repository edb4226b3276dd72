mod Tabled
mod MemberMarks
mod Ranges
mod Defined
mod DeathLines
mod Formats
mod Histories
mod Held
pub mod typings
pub mod traces
