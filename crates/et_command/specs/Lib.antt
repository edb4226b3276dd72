pub mod Words
pub mod Numbers
pub mod Command
pub mod Parts
pub mod Asked
