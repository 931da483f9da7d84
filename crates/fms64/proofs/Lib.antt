pub mod Plain
pub mod Rows
pub mod Meant
pub mod Whole
