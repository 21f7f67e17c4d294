-- What is claimed of images, with the definitions that the calls' contracts cite.
pub mod Seen
pub mod Witness
pub mod Numbers
pub mod ReadsTree
pub mod Claims
pub mod Formats
pub mod Pages
pub mod Conversions
