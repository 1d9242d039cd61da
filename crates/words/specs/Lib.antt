pub mod Entry
pub mod Answer
