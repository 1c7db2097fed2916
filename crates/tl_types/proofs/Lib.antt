pub mod Booleans
pub mod Image
pub mod CodeLaws
pub mod Counts
pub mod Lanes
pub mod Lowest
pub mod Overwrites
