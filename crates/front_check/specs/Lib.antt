pub mod Plain
pub mod Audits
