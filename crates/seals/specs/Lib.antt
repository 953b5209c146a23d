pub mod Laws
pub mod Opening
pub mod Parts
pub mod Places
pub mod Reading
pub mod Sealing
