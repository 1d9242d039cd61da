pub mod Answers
pub mod Unique
