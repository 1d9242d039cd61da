pub mod Over
pub mod Stack
