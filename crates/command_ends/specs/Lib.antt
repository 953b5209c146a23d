pub mod Ends
pub mod Giving
pub mod Statuses
