pub mod Causes
pub mod Collecting
pub mod Living
pub mod Starting
pub mod Taking
pub mod Watching
