pub mod Published
pub mod Laws
pub mod Seats
pub mod Vectors
