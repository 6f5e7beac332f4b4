pub mod Texts
pub mod Block
pub mod Vectors
