pub mod Sums
pub mod Answers
pub mod Unique
