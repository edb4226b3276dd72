pub mod Table
pub mod Decoded
pub mod Switched
pub mod Starting
pub mod Ruled
pub mod Checked
pub mod Keeping
