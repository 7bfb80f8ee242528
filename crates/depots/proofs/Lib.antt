pub mod Firsts
pub mod Calling
