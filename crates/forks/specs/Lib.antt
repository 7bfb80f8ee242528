pub mod PlaneCode
pub mod Emitting
