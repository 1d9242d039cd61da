pub mod Turning
pub mod Onward
