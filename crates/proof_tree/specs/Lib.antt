pub mod Plain
pub mod Lines
pub mod Kinds
pub mod Shorts
