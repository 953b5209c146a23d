pub mod History
pub mod Loop
pub mod Ends
