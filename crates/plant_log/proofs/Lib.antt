pub mod Each
mod Waiting
mod Kept
