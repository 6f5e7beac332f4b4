pub mod Formatted
pub mod Image
pub mod ImageDisk
pub mod Faults
pub mod Listing
pub mod Vectors
