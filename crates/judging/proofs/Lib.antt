pub mod Ways
pub mod Rules
