pub mod Retrace
pub mod Again
pub mod Standing
pub mod Leaving
pub mod Advancing
pub mod Calling
pub mod Pairs
