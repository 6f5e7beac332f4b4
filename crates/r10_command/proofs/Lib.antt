mod Formats
pub mod Rounds
pub mod Running
