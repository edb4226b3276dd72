pub mod Called
pub mod Read
mod Rooms
pub mod Rows
pub mod Out
mod Sounding
pub mod Events
pub mod Writing
pub mod TextsStay
