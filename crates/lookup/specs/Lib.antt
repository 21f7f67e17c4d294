-- Find, directory step and file read: what stands at a path of the tree of an image that the check accepts.
pub mod Paths
pub mod Find
pub mod Step
pub mod Read
pub mod Mended
pub mod Answers
pub mod Descend
pub mod Called
