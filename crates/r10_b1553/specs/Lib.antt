pub mod Bus
pub mod Entry
pub mod Vectors
