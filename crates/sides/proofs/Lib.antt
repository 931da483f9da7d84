pub mod Elements
pub mod Begun
pub mod Lanes
pub mod FirstLanes
pub mod Kept
