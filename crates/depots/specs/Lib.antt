pub mod Partition
pub mod Calls
