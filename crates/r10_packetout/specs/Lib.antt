pub mod Numbers
pub mod Places
pub mod Ending
pub mod Packets
pub mod Output
pub mod Writes
pub mod Carries
pub mod Calls
