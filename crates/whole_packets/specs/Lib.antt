pub mod Marks
pub mod Orders
