mod Handles
mod Between
mod Rooms
mod Ties
