pub mod Discrete
pub mod Entry
pub mod Vectors
