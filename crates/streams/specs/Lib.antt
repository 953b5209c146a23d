pub mod Fronts
pub mod Writing
