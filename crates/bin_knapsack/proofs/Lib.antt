pub mod Spreads
pub mod FirstCounts
pub mod Summing
pub mod BinsAnswered
pub mod ChoicesAnswered
