pub mod RepresentedParts
pub mod State
pub mod WorldSteps
pub mod Copies
pub mod Joined
pub mod PowerLoss
pub mod Answering
pub mod Waiting
