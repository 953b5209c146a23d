pub mod Codes
pub mod FaultTexts
pub mod Keys
pub mod Punching
pub mod Spelling
pub mod Plain
pub mod Laws
