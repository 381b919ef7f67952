pub mod Items
pub mod Job
pub mod Command
pub mod Said
