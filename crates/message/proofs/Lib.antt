pub mod ReadingLaws
pub mod PartBytes
