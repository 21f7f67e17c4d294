-- What a call's number says, and what it leaves in the numbers lent to it.
pub mod Answer
pub mod Formats
pub mod Named
