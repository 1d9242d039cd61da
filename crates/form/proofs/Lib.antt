pub mod Place
pub mod Formed
pub mod Flat
pub mod Answers
pub mod Accepted
pub mod Unique
