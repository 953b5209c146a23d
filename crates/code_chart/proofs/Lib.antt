pub mod Chart
pub mod Marks
