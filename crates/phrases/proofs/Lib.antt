pub mod PhraseLaws
pub mod ChainLaws
