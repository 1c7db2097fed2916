pub mod Directories
pub mod Crossings
pub mod Homes
