pub mod Searches
pub mod Children
pub mod Memories
pub mod Entries
