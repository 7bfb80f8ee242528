pub mod Loop
pub mod Same
