pub mod Writes
pub mod Room
pub mod Own
pub mod Begun
pub mod OutputSteps
pub mod Calls
