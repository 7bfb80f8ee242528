pub mod Twice
pub mod Defines
