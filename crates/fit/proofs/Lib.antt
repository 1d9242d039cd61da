pub mod Ahead
pub mod Fitting
pub mod Answers
pub mod Unique
