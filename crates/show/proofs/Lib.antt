pub mod Columns
pub mod Printed
