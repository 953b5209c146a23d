pub mod Lists
pub mod Bytes
pub mod Looking
pub mod Reading
pub mod Telling
