mod Sending
mod Speaking
pub mod Again
pub mod Alike
pub mod Entries
pub mod Lengths
pub mod Numbers
pub mod Saying
pub mod Taken
pub mod Tapes
pub mod Unique
pub mod Written
