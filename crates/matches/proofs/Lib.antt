pub mod Labelled
pub mod Telling
