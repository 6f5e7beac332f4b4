pub mod Sides
pub mod Held
pub mod Plate
pub mod Stored
