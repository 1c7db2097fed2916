pub mod Entry
pub mod Found
pub mod Given
pub mod Layers
pub mod Link
pub mod Means
pub mod Memory
pub mod Settled
