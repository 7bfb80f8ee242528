pub mod ReaderLaws
pub mod PartLaws
pub mod TextLaws
