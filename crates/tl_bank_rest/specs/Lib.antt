pub mod Flushed
pub mod Heads
pub mod Image
pub mod Rest
pub mod Shares
pub mod Taken
