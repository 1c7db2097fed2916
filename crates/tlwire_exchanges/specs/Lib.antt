pub mod Exchange
pub mod Opened
pub mod Times
