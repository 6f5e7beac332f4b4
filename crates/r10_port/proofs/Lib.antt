pub mod Items
pub mod Offers
pub mod Resting
pub mod Steps
