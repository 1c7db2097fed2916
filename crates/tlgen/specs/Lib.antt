pub mod Offered
pub mod Status
