pub mod Mounting
pub mod Listing
pub mod Settling
pub mod Front
pub mod Holding
pub mod Formatted
pub mod Mounted
