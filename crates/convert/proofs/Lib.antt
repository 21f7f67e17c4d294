-- The pages of an image judged and written in turn, and from that the claims.
pub mod AllPages
pub mod Filled
pub mod ConvertLaws
