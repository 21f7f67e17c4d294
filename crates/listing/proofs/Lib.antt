-- The laws of writing a text, of the listing's text, and of the tree that it shows.
pub mod EmitLaws
pub mod EntryLaws
pub mod RenderLaws
pub mod TreeLaws
pub mod ListingLaws
pub mod SizeLaws
