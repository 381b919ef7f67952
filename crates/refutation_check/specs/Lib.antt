pub mod Ended
pub mod Nodes
pub mod Refuters
pub mod Joining
