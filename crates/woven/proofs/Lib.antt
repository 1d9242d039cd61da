pub mod Deeds
pub mod Keyed
pub mod Weaving
pub mod Walking
pub mod Combined
