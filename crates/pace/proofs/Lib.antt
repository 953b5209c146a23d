pub mod Choice
pub mod Ranks
pub mod Rules
