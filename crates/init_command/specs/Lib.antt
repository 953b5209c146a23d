pub mod Asked
pub mod Ends
pub mod Files
pub mod Keys
pub mod Making
pub mod Places
pub mod Plants
