pub mod Telling
mod Putting
mod Lettering
pub mod Uses
