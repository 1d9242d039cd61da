pub mod ByKind
pub mod Laws
pub mod Scanning
