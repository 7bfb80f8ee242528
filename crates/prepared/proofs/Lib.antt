mod Clear
mod Filling
pub mod Enough
