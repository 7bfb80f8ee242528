pub mod Small
pub mod Ways
pub mod Trails
pub mod Going
pub mod Trying
