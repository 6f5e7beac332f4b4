mod Owning
pub mod Leading
pub mod Lasting
pub mod Growing
mod Taking
mod LaneCalls
pub mod Finding
pub mod Showing
pub mod Leaving
pub mod Keeping
pub mod SafeCalls
