pub mod Answers
pub mod Hands
pub mod Laws
pub mod Lists
pub mod Scans
pub mod Texts
