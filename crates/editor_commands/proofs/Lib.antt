pub mod Ends
pub mod Bands
pub mod Rows
pub mod FitEnds
