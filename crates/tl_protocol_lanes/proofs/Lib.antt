pub mod Cells
pub mod Delivery
pub mod Events
pub mod First
pub mod Lists
pub mod Logs
pub mod Whole
