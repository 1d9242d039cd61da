pub mod Promises
pub mod Call
pub mod Again
pub mod Examples
