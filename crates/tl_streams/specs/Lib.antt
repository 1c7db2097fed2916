pub mod Fault
pub mod Progress
pub mod Words
pub mod Written
