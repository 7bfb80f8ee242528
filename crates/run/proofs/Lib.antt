pub mod Joined
pub mod Running
