pub mod Parts
pub mod Entries
pub mod Looks
pub mod Counts
pub mod Damage
pub mod Surveys
