mod OneEvent
mod Carried
mod Opened
mod Counting
mod Quiet
