mod Raising
mod Writing
pub mod First
