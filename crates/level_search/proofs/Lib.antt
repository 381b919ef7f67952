pub mod OnRun
pub mod Narrowing
