mod Lasting
mod Changing
mod Sides
mod Guarded
mod Shown
mod Sectors
mod Opening
