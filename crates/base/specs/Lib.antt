pub mod Base
pub mod Desk
