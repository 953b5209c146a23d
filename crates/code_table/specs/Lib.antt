pub mod Entries
pub mod Names
pub mod Reading
pub mod Tables
pub mod Texts
