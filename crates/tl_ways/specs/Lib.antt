pub mod Entries
pub mod Orders
pub mod Rows
pub mod Tables
pub mod Stores
