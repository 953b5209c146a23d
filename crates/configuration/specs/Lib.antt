pub mod Addresses
pub mod Documents
pub mod Ends
pub mod Faults
pub mod Hosts
pub mod Keys
pub mod Reading
pub mod Stations
