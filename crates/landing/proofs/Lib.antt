pub mod Landed
pub mod Known
pub mod Shown
