pub mod Parts
pub mod Based
