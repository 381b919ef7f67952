pub mod Products
pub mod Edges
pub mod Named
pub mod Tuples
pub mod Searching
mod PartialProducts
mod Shares
mod FewFunctions
mod FastestRows
mod Trying
