pub mod Padding
pub mod Showing
pub mod Carrying
pub mod Joining
pub mod Resuming
pub mod Runs
pub mod Parting
pub mod Across
