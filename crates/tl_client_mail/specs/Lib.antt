pub mod Ways
pub mod Rounds
pub mod Lanes
pub mod Inbox
