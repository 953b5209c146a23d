pub mod Driven
pub mod Stretches
