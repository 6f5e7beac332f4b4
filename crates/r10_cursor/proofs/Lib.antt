mod Clipping
pub mod Covering
mod Few
mod Keeping
mod Learned
pub mod Said
mod Staying
mod Times
pub mod Sizes
pub mod Places
pub mod Searching
pub mod OnMedium
pub mod Reported
pub mod Ticks
pub mod Wanting
pub mod Starting
pub mod BeforeIndex
pub mod AlikeFronts
pub mod HowFar
pub mod Slots
mod Stepping
mod FirstPackets
mod Lower
mod Moving
mod Adding
mod FirstEntries
mod Counted
