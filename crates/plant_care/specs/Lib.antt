pub mod Asking
pub mod Caring
pub mod Starting
pub mod Surveying
