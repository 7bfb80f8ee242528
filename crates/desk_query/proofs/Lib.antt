pub mod Letters
pub mod Clearing
