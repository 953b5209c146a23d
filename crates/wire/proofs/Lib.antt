pub mod Passing
pub mod Staying
pub mod Guarding
