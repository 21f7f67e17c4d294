-- Why the walk of the code is the check of the model.
pub mod ChainPages
pub mod ScanLaws
pub mod SlotSteps
pub mod MetLaws
pub mod LookLaws
pub mod PagePlaces
pub mod PageReads
pub mod TellLaws
pub mod TaskLaws
pub mod RootLaws
pub mod MendedLaws
pub mod CheckLaws
pub mod SumLaws
