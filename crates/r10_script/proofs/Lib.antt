pub mod Items
pub mod Asks
pub mod Known
pub mod Apart
