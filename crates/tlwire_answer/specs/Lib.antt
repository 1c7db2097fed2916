pub mod Advice
pub mod Answer
pub mod Replies
pub mod Ending
pub mod Lines
pub mod Run
pub mod Waits
pub mod Named
