pub mod Files
pub mod Homes
pub mod Paths
pub mod Traces
