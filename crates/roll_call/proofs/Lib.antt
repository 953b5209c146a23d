pub mod Turns
pub mod Counting
pub mod Lowest
pub mod Waiting
pub mod Keeping
