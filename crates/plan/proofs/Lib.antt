pub mod Struck
pub mod Changed
pub mod Planned
pub mod Answers
pub mod Beside
pub mod Renumbered
