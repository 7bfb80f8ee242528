pub mod Events
pub mod Scanning
pub mod Examples
