pub mod Layers
pub mod Readback
