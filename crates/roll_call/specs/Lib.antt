pub mod Topics
pub mod Answers
pub mod Heard
pub mod Tellers
pub mod Asks
pub mod Held
pub mod RollCall
pub mod Laws
