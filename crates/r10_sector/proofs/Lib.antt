pub mod Placing
pub mod Recovering
