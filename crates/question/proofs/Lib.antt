pub mod Mine
pub mod Typed
pub mod Calls
pub mod Same
