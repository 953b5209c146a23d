pub mod Greatest
pub mod InHand
pub mod Answers
pub mod Slots
