pub mod Joined
pub mod Short
pub mod Branches
pub mod Turns
