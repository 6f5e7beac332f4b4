pub mod Zeros
pub mod Lines
pub mod Blocks
