pub mod Coherent
pub mod Counted
pub mod Delivered
pub mod Forbidden
pub mod Logged
pub mod Named
pub mod Sent
pub mod Permissions
