pub mod Texts
pub mod Judging
pub mod Owners
pub mod Timing
