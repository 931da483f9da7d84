pub mod Sides
pub mod Rows
pub mod Counts
pub mod Meant
pub mod Whole
