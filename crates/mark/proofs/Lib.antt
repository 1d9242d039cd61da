pub mod Walk
pub mod Marking
