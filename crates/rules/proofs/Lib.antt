pub mod Bench
pub mod Samples
