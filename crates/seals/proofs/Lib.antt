pub mod Bits
pub mod Counting
pub mod Heads
pub mod Keeping
pub mod Knowing
pub mod Placing
pub mod Sealed
