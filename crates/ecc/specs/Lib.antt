pub mod Code
pub mod Parities
pub mod Judge
pub mod Four
pub mod Flip
pub mod Claims
