pub mod Signed
pub mod Small
pub mod Counting
