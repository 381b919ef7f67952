pub mod Verdicts
pub mod Sets
pub mod Reaching
pub mod Memories
pub mod Entries
pub mod Grown
