pub mod Spelling
pub mod Planes
pub mod Forking
pub mod UnrollLaws
pub mod Legal
