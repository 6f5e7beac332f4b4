pub mod Index
pub mod Entry
pub mod Vectors
pub mod Loss
pub mod LossVectors
