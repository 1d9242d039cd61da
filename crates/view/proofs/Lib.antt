pub mod Touching
pub mod Viewing
pub mod Unique
