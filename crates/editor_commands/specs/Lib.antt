pub mod Ends
pub mod Punched
pub mod SpelledAs
pub mod Report
pub mod Fitted
