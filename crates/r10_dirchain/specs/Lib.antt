pub mod Chain
pub mod Bad
pub mod Steps
pub mod OnMedium
pub mod Mount
pub mod Checked
pub mod Rooms
pub mod Vectors
