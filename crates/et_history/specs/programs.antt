pub mod Fields
pub mod Rules
pub mod Programs
pub mod ClassNames
