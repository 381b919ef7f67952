pub mod ValueLevels
pub mod Heights
