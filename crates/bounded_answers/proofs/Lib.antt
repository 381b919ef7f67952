pub mod ValueFed
pub mod Values
pub mod ValueBases
pub mod HeightBases
pub mod HeightFed
