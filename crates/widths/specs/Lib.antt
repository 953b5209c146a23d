pub mod Laws
pub mod Numbers
pub mod Reading
pub mod Widths
