pub mod Inputs
pub mod Verdicts
