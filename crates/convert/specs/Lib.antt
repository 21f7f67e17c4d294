pub mod Converted
pub mod Claims
