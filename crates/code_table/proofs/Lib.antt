pub mod Arrays
pub mod Filling
pub mod Names
