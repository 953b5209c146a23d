pub mod Sets
pub mod Agreeing
pub mod OneMore
pub mod Settling
pub mod Out
pub mod Repeating
