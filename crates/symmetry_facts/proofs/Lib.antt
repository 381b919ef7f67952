pub mod Reduced
pub mod Rows
