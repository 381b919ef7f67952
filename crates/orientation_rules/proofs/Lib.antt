pub mod Keeps
pub mod Compositions
pub mod ChainLaws
pub mod LeadRows
pub mod TakenOut
pub mod Finished
pub mod Ordering
pub mod OrderedPairs
pub mod FollowedChanges
pub mod KnownWeights
mod OverLong
pub mod PropagatedWeights
pub mod ListedChains
