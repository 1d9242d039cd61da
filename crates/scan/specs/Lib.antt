pub mod Pass
pub mod Scan
pub mod Slice
