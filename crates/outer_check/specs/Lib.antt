pub mod Frames
pub mod Nodes
pub mod Outers
pub mod Steps
pub mod Taking
pub mod Bounded
pub mod FamilyAnswers
pub mod FamilyRefuters
