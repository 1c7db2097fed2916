pub mod Words
pub mod Reads
pub mod Ticket
pub mod Command
pub mod Step
pub mod Hex
