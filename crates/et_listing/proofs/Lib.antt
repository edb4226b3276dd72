pub mod Pieces
pub mod Spelled
pub mod Unescaped
pub mod Shapes
pub mod Sane
