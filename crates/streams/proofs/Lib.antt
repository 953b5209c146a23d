pub mod Bytes
pub mod Fronts
pub mod Parts
pub mod Writing
