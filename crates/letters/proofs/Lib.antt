pub mod First
pub mod Testing
