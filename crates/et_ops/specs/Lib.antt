pub mod Tops
pub mod Plain
