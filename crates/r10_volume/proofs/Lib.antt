pub mod Turning
pub mod Taken
pub mod Listed
pub mod Usable
pub mod OtherFilesStay
pub mod Ends
pub mod Staying
pub mod Relisting
pub mod Carried
mod EmptyMedium
