pub mod Intervals
pub mod Raising
pub mod Words
