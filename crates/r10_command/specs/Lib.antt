pub mod Command
pub mod Lines
pub mod Sim
pub mod Status
pub mod Written
