pub mod Acts
pub mod Keeping
pub mod Lives
pub mod Logs
