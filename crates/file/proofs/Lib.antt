pub mod Parts
pub mod Contents
pub mod Paddings
pub mod Sound
pub mod Records
pub mod Accepted
pub mod Heads
pub mod States
