pub mod Keys
pub mod Kinds
pub mod Offers
pub mod Script
pub mod Session
pub mod Steps
pub mod Vectors
