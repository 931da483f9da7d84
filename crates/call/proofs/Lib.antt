pub mod Rows
pub mod Clears
