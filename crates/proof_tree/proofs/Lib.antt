pub mod Texts
pub mod TokenWords
pub mod Shorts
pub mod Parts
