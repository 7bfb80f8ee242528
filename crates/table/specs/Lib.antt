pub mod Table
pub mod Sized
pub mod Tests
pub mod Measures
