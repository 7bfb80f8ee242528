pub mod SkipByte
pub mod Done
pub mod OneFromOther
