pub mod Table
pub mod Counting
