pub mod Between
pub mod There
pub mod Words
mod OutletHandles
mod PortHandles
mod Ranges
