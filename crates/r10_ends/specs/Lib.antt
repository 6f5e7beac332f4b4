pub mod Ends
pub mod Owning
pub mod Sending
pub mod Vectors
