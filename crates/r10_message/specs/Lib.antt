pub mod Message
pub mod Entry
pub mod Vectors
