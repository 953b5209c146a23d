pub mod Creations
pub mod Ends
pub mod FirstLine
pub mod Starts
pub mod Wires
