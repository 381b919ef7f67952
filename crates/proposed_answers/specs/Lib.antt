pub mod Behind
pub mod Counts
pub mod Heights
pub mod Shares
pub mod Values
