pub mod Bodies
pub mod Checks
pub mod Numbers
