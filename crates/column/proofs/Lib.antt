pub mod Same
pub mod Rows
pub mod Writing
pub mod Going
pub mod Unique
