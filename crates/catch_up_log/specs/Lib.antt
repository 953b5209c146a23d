pub mod Words
pub mod Passing
pub mod Ranges
pub mod Missing
pub mod Missed
pub mod Once
