pub mod Promises
pub mod Examples
