pub mod Looked
pub mod Reading
pub mod Writing
pub mod Turns
pub mod Files
