mod Doors
mod Faults
pub mod Texts
