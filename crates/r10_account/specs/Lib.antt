pub mod Accepted
pub mod Account
pub mod FilesOfOthers
pub mod Sums
pub mod Cases
