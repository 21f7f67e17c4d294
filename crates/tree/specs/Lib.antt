-- The check of an image, and the walk as the code does it: slots by stepping through the table.
pub mod Card
pub mod Mended
pub mod Slots
pub mod Scan
pub mod Met
pub mod Walk
pub mod Counted
