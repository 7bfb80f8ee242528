pub mod RoundLaws
pub mod Holds
pub mod ByNode
pub mod FirstNode
