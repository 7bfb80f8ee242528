mod Comparing
mod Moving
pub mod Same
mod Several
