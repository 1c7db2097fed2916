pub mod KeyLaws
pub mod Counts
pub mod Endings
