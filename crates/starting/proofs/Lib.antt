mod Thin
pub mod Starting
pub mod Ending
