pub mod Delivery
pub mod Lanes
pub mod Lawful
pub mod Lists
