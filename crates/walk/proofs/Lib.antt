pub mod Backing
pub mod Whole
