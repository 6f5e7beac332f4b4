pub mod Nodes
pub mod Roots
