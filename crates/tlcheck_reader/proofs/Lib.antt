pub mod Growing
pub mod Judging
pub mod Giving
pub mod Shape
pub mod Steps
