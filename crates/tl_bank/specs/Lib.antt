pub mod Contents
pub mod Shown
pub mod Would
