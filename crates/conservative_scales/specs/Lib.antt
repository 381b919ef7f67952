pub mod Partials
pub mod Rows
pub mod Within
