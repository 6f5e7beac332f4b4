mod Placed
mod Later
