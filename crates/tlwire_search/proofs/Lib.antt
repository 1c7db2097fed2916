pub mod Along
pub mod Led
pub mod Listing
pub mod Marking
pub mod Grants
