pub mod Answer
pub mod Closing
pub mod Memory
pub mod Report
pub mod Trace
