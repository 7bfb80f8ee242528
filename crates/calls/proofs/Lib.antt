pub mod Bounds
pub mod Unlimited
pub mod Stepping
pub mod Standing
pub mod Taking
pub mod Refusing
