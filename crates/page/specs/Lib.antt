pub mod Page
pub mod Mended
pub mod PageLaws
pub mod Twins
