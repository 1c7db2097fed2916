pub mod History
pub mod Locks
pub mod Ports
