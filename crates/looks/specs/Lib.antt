pub mod Gathering
pub mod Handing
pub mod Looking
pub mod Merging
pub mod Names
pub mod Sightings
pub mod Strays
pub mod TakingIn
