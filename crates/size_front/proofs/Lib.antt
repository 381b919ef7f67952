pub mod Deciders
pub mod Retold
pub mod Walked
