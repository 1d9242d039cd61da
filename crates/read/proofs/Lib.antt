pub mod Ready
pub mod Answers
pub mod Unique
