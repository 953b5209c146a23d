pub mod Entries
pub mod Found
pub mod Octets
pub mod Order
