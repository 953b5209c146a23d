pub mod Steps
pub mod Marks
pub mod Naming
pub mod Taking
pub mod Texts
