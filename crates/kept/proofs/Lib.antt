pub mod ReadBack
pub mod Exactly
pub mod Table
pub mod Again
