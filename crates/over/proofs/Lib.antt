pub mod Layers
pub mod Keys
pub mod Around
pub mod Overlooking
