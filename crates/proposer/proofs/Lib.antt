pub mod Greatest
pub mod Alone
pub mod Counting
pub mod Reading
pub mod Standing
pub mod Slots
pub mod Promising
