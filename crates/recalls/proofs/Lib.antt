pub mod Numbers
pub mod Written
pub mod Again
pub mod Found
pub mod Steps
