-- The listing of an image as text, what a lent buffer holds of it, and the way in which the code writes it.
pub mod Text
pub mod Room
pub mod Stamps
pub mod Emit
pub mod Sizes
pub mod Paths
pub mod Render
