pub mod Input
pub mod Verdict
