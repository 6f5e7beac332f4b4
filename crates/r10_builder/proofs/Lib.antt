pub mod Lists
pub mod Messages
pub mod Holding
pub mod Reading
pub mod Contents
pub mod Closing
pub mod Frames
pub mod Steps
pub mod Rising
pub mod Following
pub mod Growing
pub mod Places
pub mod Taking
pub mod First
pub mod EachSteps
pub mod Leaving
mod Ready
