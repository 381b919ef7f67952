pub mod Steps
pub mod ClapReading
pub mod Walking
pub mod Walked
pub mod Rows
pub mod Alike
pub mod Judged
pub mod Examples
