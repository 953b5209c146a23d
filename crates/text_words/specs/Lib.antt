pub mod Words
pub mod Ligatures
pub mod Places
pub mod Writing
pub mod Laws
