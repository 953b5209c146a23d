pub mod Numbers
pub mod Counting
pub mod Flags
pub mod Written
pub mod Again
pub mod Found
