pub mod CauseWords
pub mod RefusalWords
