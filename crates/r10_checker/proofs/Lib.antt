pub mod One
pub mod Placing
pub mod Saying
