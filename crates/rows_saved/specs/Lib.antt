pub mod Blaming
pub mod Called
pub mod Calls
pub mod Grouped
pub mod Groups
pub mod Identity
pub mod Memory
pub mod Saved
