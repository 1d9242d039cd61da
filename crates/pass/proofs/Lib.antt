pub mod Sides
pub mod Moving
