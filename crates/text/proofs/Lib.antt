pub mod Printed
pub mod Pieces
pub mod Decimal
pub mod Text
pub mod Lengths
