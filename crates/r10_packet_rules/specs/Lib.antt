pub mod Facts
pub mod Header
pub mod Tally
pub mod Strict
pub mod Glance
pub mod Tracks
