pub mod Lanes
pub mod Rows
pub mod Serials
pub mod Told
