pub mod Layer
pub mod Guarding
pub mod Last
pub mod LayerDisk
pub mod Opening
