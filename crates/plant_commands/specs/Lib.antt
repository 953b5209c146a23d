pub mod Fits
pub mod Oddities
pub mod Places
pub mod Reaches
