pub mod TableLaws
pub mod WayLaws
