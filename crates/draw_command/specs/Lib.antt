pub mod Drawing
pub mod Charting
