pub mod LettersPlaced
pub mod Looking
