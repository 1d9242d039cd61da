pub mod Written
pub mod Unique
