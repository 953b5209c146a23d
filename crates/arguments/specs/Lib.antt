pub mod Inits
pub mod Plans
