pub mod Same
pub mod Putting
