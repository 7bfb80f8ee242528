pub mod Spots
pub mod Letters
