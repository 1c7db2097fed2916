pub mod Copies
pub mod Entries
pub mod Held
pub mod Slots
