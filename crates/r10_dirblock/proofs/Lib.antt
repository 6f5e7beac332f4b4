mod Rules
pub mod Again
pub mod SameBytes
pub mod BlockFields
pub mod Stripped
