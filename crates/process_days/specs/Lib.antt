pub mod Cutting
pub mod Ends
pub mod Keyed
pub mod Saved
pub mod Seeing
pub mod Telling
