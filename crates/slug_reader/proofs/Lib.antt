pub mod Lists
pub mod Looking
pub mod Assembly
pub mod Numbers
pub mod Standing
pub mod Tapes
