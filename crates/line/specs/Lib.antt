pub mod Line
pub mod Fields
