pub mod Listing
pub mod Totals
