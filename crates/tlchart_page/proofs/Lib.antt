pub mod Changed
pub mod Frames
pub mod Lasts
pub mod Moves
pub mod Untouched
pub mod Reached
