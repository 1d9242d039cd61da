pub mod Marks
pub mod Walking
pub mod Looking
