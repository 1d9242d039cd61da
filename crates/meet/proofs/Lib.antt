pub mod Ahead
pub mod Entries
