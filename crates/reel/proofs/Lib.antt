pub mod Gaps
pub mod Trims
pub mod Holes
