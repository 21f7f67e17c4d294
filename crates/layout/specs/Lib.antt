-- What the bytes of an image say: refusals 1 to 5, the allocation table, and the view that the model speaks of.
pub mod Refusal
pub mod Superblock
pub mod Table
pub mod See
pub mod Needed
pub mod Mended
