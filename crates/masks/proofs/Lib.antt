pub mod Mask
pub mod Bools
pub mod Enabled
pub mod Vecint
