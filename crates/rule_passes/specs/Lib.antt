pub mod Reached
pub mod Rooms
