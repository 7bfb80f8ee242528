pub mod Visiting
pub mod Sofar
pub mod Clearing
pub mod Within
pub mod Going
