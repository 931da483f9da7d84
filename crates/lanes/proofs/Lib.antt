pub mod Counted
pub mod Elements
