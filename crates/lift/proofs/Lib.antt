pub mod Rows
pub mod Between
pub mod Taken
