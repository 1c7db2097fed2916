pub mod Answer
pub mod Cause
pub mod Fault
pub mod Trace
pub mod Job
