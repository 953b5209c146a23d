pub mod Setups
pub mod Laws
pub mod Worlds
pub mod Taking
pub mod Reach
pub mod Founding
pub mod Playing
pub mod Logging
