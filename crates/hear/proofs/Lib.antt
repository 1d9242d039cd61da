pub mod Rows
pub mod Hearing
