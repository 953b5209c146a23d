pub mod Causes
pub mod Creating
pub mod Found
pub mod Knowing
pub mod Standing
pub mod Telling
