pub mod Sequences
pub mod Firsts
pub mod Looking
pub mod Placing
pub mod Boxes
pub mod Framing
