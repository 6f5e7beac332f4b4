mod Entering
mod Looking
mod Counting
mod Stretches
mod Verdicts
mod Taking
