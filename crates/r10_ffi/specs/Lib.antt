pub mod Calls
pub mod Civil
pub mod Ports
