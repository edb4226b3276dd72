pub mod Needs
pub mod Texts
pub mod Under
pub mod Asked
