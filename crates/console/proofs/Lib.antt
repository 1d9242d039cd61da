pub mod Lines
pub mod Once
pub mod Example
pub mod Standing
pub mod Whole
pub mod Told
pub mod Run
