mod Histories
pub mod Imaged
pub mod InTurn
mod Later
pub mod Nexts
mod NotDone
pub mod Resting
pub mod Sends
pub mod Stored
pub mod Waits
pub mod Widths
