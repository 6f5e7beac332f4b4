pub mod Verdict
pub mod Vectors
pub mod Place
pub mod Checked
