pub mod Four
pub mod Digits
pub mod Examples
