pub mod Ends
pub mod ChartEnds
