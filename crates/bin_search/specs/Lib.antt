pub mod Lists
pub mod Nodes
pub mod Trees
pub mod Walks
pub mod Paths
pub mod Rights
