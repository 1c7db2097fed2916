pub mod Words
pub mod Parts
pub mod Film
pub mod Told
pub mod Reach
pub mod Cells
pub mod Page
pub mod Draw
