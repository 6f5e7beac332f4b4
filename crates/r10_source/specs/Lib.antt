pub mod Given
pub mod Pumps
pub mod Vectors
