pub mod Covered
pub mod Faults
pub mod Tallies
