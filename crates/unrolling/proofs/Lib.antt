pub mod CodeLaws
pub mod EmitLaws
pub mod LoopLaws
