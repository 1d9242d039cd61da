pub mod Number
pub mod Decimal
