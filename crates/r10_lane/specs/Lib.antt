pub mod Lanes
pub mod Laws
pub mod Losing
pub mod Spending
pub mod Vectors
