mod DataAfterData
mod Moments
mod Turning
pub mod Ends
pub mod Written
mod Last
mod AllPut
mod Shown
pub mod Grown
pub mod Coming
mod Going
mod Closed
mod Pumped
mod AllPumped
pub mod Fronting
pub mod Others
mod Names
mod Places
mod Rooms
mod Dearest
mod Beginning
mod Relisted
mod Sorted
pub mod BehindAll
pub mod BackToBack
pub mod Listing
pub mod ListedTurning
pub mod Calls
mod DataThenDirectory
pub mod SamplesComing
pub mod Together
pub mod SoFar
pub mod Before
pub mod Fitting
pub mod Leaving
pub mod Lanes
pub mod AllLanes
pub mod Stops
pub mod Rests
pub mod AtOnce
