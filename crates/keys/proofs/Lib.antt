pub mod Rising
pub mod Ranked
