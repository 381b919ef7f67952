pub mod Choosing
pub mod NodeOutcomes
pub mod Walking
pub mod Rights
pub mod Children
pub mod Along
pub mod PathNodes
