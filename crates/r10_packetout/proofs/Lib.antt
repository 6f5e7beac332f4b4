pub mod Table
pub mod Summing
pub mod Framing
pub mod Having
pub mod Indexing
pub mod Carrying
mod Events
mod Own
mod Begin
pub mod Closing
pub mod Room
