pub mod Levels
pub mod Masks
pub mod Pieces
pub mod Trimming
pub mod Tapes
pub mod Names
