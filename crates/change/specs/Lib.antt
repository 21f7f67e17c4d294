-- A change of an image: what the call answers, and every byte of the image afterwards.
pub mod Image
pub mod Changed
pub mod Words
pub mod Pages
pub mod Deeds
pub mod Answers
pub mod Calls
pub mod Kinds
