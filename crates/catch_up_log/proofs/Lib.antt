pub mod Behind
pub mod Told
pub mod Each
mod One
mod Once
