pub mod Writing
pub mod Putting
mod Ours
mod Beginning
mod Due
