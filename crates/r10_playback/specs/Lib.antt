pub mod Played
pub mod Lines
pub mod Checked
pub mod Words
