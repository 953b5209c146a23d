mod Cutting
mod Ends
mod Filed
mod LetIn
mod Names
mod Saved
pub mod Coming
pub mod GoingOn
pub mod Storing
