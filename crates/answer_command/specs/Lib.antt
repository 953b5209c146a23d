pub mod Asked
pub mod Replies
pub mod AnswerText
pub mod Seats
