pub mod Words
pub mod Civil
pub mod Refusals
pub mod Line
pub mod Replies
pub mod Vectors
pub mod CivilParts
pub mod Fault
