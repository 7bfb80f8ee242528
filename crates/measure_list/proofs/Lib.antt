pub mod Keeping
pub mod OneMeasure
pub mod Counting
pub mod Tabling
