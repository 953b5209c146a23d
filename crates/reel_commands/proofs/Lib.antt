pub mod Frames
pub mod Made
pub mod Near
pub mod Lines
