pub mod Buffer
pub mod Patching
pub mod Putting
pub mod Writing
