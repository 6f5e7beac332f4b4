pub mod Words
pub mod Lengths
pub mod NoRuleBroken
pub mod Fields
pub mod Again
pub mod Frames
pub mod Whole
