pub mod Indices
pub mod Bytes
