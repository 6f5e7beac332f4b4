pub mod Fronts
pub mod Finding
pub mod Playing
pub mod Queue
mod WrittenStays
