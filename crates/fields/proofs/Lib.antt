-- The lemmas of the functions' proofs, by subject.
pub mod NumberLaws
pub mod NameLaws
pub mod KindLaws
pub mod PathLaws
pub mod ShiftLaws
pub mod TimeLaws
pub mod WriteLaws
