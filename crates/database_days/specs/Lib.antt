pub mod Starting
pub mod GroupSteps
pub mod Grouping
pub mod Restarting
