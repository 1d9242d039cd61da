pub mod Reading
pub mod Sign
pub mod Examples
pub mod Length
