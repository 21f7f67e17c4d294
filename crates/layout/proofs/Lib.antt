-- The laws behind the proofs, and the laws of an open card for the layers above (Geometry, TableLaws).
pub mod Texts
pub mod UpTo
pub mod ListLaws
pub mod Names
pub mod Stages
pub mod TablePages
pub mod TableLaws
pub mod OpenFacts
pub mod NeededOnce
pub mod MendedLaws
