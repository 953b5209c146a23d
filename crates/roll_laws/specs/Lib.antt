pub mod Votes
pub mod Rolls
pub mod Searches
