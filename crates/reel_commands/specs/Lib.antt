pub mod Ends
pub mod Files
pub mod Importing
pub mod Report
pub mod Survey
