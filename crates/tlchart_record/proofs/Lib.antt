pub mod Frames
pub mod Windows
