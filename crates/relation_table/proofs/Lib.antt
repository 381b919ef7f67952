pub mod Tables
pub mod IntervalLemmas
