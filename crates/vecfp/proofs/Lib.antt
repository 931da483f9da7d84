pub mod Alu
pub mod Sides
pub mod Vectors
pub mod VectorsLoop
pub mod Counts
