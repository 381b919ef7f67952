pub mod Choices
pub mod Walks
pub mod Paths
pub mod Rights
