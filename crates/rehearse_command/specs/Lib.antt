pub mod Datagrams
pub mod Lines
pub mod Notes
pub mod Orders
pub mod Rehearsals
pub mod Scenes
pub mod ScriptWords
pub mod Words
