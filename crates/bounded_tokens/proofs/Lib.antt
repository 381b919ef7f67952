pub mod FirstWords
pub mod FamilyWords
pub mod Joining
