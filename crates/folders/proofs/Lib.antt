pub mod Among
pub mod Doings
pub mod Ledgers
pub mod NameEnds
pub mod SpanNames
pub mod Steps
