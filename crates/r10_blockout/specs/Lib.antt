pub mod Blocks
pub mod Output
pub mod Vectors
pub mod Bytes
