mod Alike
mod OnChannels
mod Either
pub mod OnTimes
mod OnEvents
mod OnReports
mod Fronts
mod Named
pub mod OnIndex
mod Least
pub mod Joins
