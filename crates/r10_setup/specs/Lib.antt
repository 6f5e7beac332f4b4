pub mod Setup
pub mod Vectors
