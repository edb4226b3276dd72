pub mod TextsInside
pub mod TextUnits
pub mod Pieces
pub mod Calls
