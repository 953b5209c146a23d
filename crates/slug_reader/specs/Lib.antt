pub mod Positions
pub mod Meanings
pub mod Lines
pub mod Faults
pub mod Assembling
pub mod Answers
pub mod Pieces
