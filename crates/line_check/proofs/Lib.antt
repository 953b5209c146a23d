pub mod Spread
pub mod Uniqueness
pub mod Written
pub mod FirstFault
pub mod Existence
pub mod ByPieces
