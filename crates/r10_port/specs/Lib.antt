pub mod Items
pub mod Ends
pub mod Laws
pub mod Vectors
