pub mod Fewness
pub mod Looking
pub mod Marks
pub mod Opening
pub mod Ripe
