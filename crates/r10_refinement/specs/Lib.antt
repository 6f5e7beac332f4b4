pub mod KeptState
pub mod Means
pub mod Grown
pub mod Again
pub mod PowerLossInCalls
pub mod Quiet
pub mod Safe
