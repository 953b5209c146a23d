pub mod Joining
pub mod Once
pub mod Walks
