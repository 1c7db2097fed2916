pub mod Lines
pub mod Marks
pub mod OneMore
pub mod ReadBack
pub mod StateLines
pub mod Texts
