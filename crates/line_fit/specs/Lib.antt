pub mod Fitting
pub mod Pending
pub mod Sizes
