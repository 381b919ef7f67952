pub mod Audited
pub mod Copies
