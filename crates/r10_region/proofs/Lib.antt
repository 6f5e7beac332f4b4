mod OneMoreOperation
pub mod Lines
mod Runs
pub mod Turns
