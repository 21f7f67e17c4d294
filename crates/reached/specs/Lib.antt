-- The record of the clusters reached, a chain in the table, and the counts.
pub mod Marks
pub mod Table
pub mod Chain
pub mod Blocks
pub mod Totals
