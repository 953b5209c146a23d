pub mod Zips
mod Alike
pub mod Remembering
pub mod Taking
pub mod Asking
pub mod Calling
pub mod Refused
