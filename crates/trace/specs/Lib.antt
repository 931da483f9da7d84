pub mod Trace
pub mod Runs
pub mod Reading
pub mod Resume
