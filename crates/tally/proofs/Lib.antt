pub mod Reading
pub mod Tallying
pub mod Examples
