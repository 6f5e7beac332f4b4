pub mod Sealing
pub mod Judging
pub mod Leftover
pub mod SealRequirements
pub mod ByParts
