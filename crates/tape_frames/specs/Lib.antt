pub mod Frames
pub mod Holes
pub mod Packing
pub mod Entries
