-- Every claim holds.
pub mod MarkedNumbers
pub mod PathFinds
pub mod PathNames
pub mod ImageClaims
pub mod PagesOnce
pub mod NoneMended
pub mod Witness
pub mod FilePages
pub mod ReadsTree
pub mod OpenAlike
pub mod ChangeAlike
pub mod FormatsAlike
pub mod Conversions
