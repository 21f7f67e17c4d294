-- What this crate adds to the model: definitions on its own types and on a path's bytes.
pub mod Kinds
pub mod Calendar
pub mod Entries
pub mod PathBytes
