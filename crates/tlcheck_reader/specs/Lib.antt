pub mod Entries
pub mod EntriesState
pub mod Lines
pub mod Outcome
pub mod Reading
pub mod Text
pub mod Ending
